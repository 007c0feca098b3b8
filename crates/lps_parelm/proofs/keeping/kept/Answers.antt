use Rattle.std.proofs.Common.{length, ◌≤◌, false, arith}
use Rattle.lps_parelm.proofs.KeptPlaces.{keeping_starts, keeping_skips, keeping_takes, keeping_ends}
use Rattle.lps_parelm.proofs.keeping.kept.Goals as goal

pub loop-place-init : goal.loop-place-init
loop-place-init g c = keeping_starts _ c.args.marks.now c.args.items.now c.new-left.result.items c.new-left.ensures.items

pub loop-place-preserved-then-not-marks-place : goal.loop-place-preserved-then-not-marks-place
loop-place-preserved-then-not-marks-place g c = keeping_skips _ c.args.marks.now c.args.items.now c.loop-place.left.items c.loop-place.place false c.loop-place.invariant c.loop-place-test.true c.requires (grind (arith, c.if-not-marks-place.true))

pub loop-place-preserved : goal.loop-place-preserved
loop-place-preserved g c =
    keeping_takes _ c.args.marks.now c.args.items.now c.loop-place.left.items c.push.new.self.items c.loop-place.place false c.index-items-place.result c.loop-place.invariant c.loop-place-test.true c.requires (grind (arith, c.if-not-marks-place.false)) c.index-items-place.is
    c.in_ok-push.ensures.items

pub returns : goal.returns
returns g c =
    let n = c.loop-place-test.false in
    let l : length c.args.items.now ≤ c.loop-place.place = omega (arith, n) in
    keeping_ends _ c.args.marks.now c.args.items.now c.loop-place.left.items c.loop-place.place c.loop-place.invariant l
