use Rattle.std.proofs.Common.{◌∙◌, arith}
use Rattle.lps_simulator.proofs.Placing.{filling, filled_all}
use Rattle.lps_simulator.proofs.combinations.fill.Goals as goal

pub loop-places-preserved : goal.loop-places-preserved
loop-places-preserved c =
    let inv = c.loop-places.invariant in
    let r = filling c.args.lists.now c.loop-places.places.items c.push.new.self.items inv.within c.requires.filled (omega (arith, c.loop-places-test.true, c.len.ensures)) c.in_ok-push.ensures.items in
    record { within = r.0; left = r.1 ∙ inv.left }

pub returns-clause-full : goal.returns-clause-full
returns-clause-full c = filled_all c.args.lists.now c.loop-places.places.items c.loop-places.invariant.within (omega (arith, c.loop-places-test.false, c.len.ensures))
