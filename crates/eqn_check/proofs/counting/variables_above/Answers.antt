use Rattle.eqn_check.proofs.CountedLemmas.{kept_step, kept_end}
use Rattle.eqn_check.proofs.counting.variables_above.Goals as goal

pub loop-one-preserved : goal.loop-one-preserved
loop-one-preserved c =
    kept_step c.args.sig.now c.args.pool.now.trees c.args.condition c.loop-one.rest c.loop-one.found c.add_kept.new.found c.loop-one.invariant c.in-Some.one c.in-Some.other c.in-Some.ensures c.in_ok-add_kept.ensures

pub returns : goal.returns
returns c =
    kept_end c.args.sig.now c.args.pool.now.trees c.args.condition c.loop-one.rest c.loop-one.found c.add_kept-2.new.found c.loop-one.invariant c.in_default.ensures c.in_ok-add_kept-2.ensures
