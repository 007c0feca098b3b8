use Rattle.std.proofs.Common.{arith, false}
use Rattle.graphs.proofs.Kept.{not_marked}
use Rattle.proc_unfold.proofs.ParallelNames.{places_more, places_same, places_all}
use Rattle.proc_unfold.proofs.outside.marked.Goals as goal

pub loop-place-preserved-then-not-marks-place : goal.loop-place-preserved-then-not-marks-place
loop-place-preserved-then-not-marks-place c = places_same c.args.marks.now c.loop-place.place c.loop-place.places.items c.loop-place.invariant (not_marked c.args.marks.now c.loop-place.place false c.if-not-marks-place.true)

pub loop-place-preserved : goal.loop-place-preserved
loop-place-preserved c = places_more c.args.marks.now c.loop-place.place c.loop-place.places.items c.push.new.self.items c.loop-place.invariant c.if-not-marks-place.false c.in_ok-push.ensures.items

pub returns : goal.returns
returns c = places_all c.args.marks.now c.loop-place.place c.loop-place.places.items (omega (arith, c.loop-place-test.false)) c.loop-place.invariant
