use Rattle.std.proofs.Common.{◌≤◌, length, arith}
use Rattle.lps_invariant.proofs.PuttingParts.{zip_more, zip_all}
use Rattle.lps_invariant.proofs.places.pairs.Goals as goal

pub loop-number-preserved : goal.loop-number-preserved
loop-number-preserved c =
    zip_more c.args.vars.now c.args.terms.now c.loop-number.by.items c.push.new.self.items c.loop-number.number (record { 0 = 0 }) (record { 0 = 0 }) c.loop-number-test.true c.requires c.loop-number.invariant c.in_ok-push.ensures.items

pub returns : goal.returns
returns c =
    let n = c.loop-number-test.false in
    let l : length c.args.vars.now ≤ c.loop-number.number = omega (arith, n) in
    zip_all c.args.vars.now c.args.terms.now c.loop-number.by.items c.loop-number.number l c.requires c.loop-number.invariant
