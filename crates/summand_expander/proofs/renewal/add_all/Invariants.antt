use Rattle.summand_expander.proofs.GivingWay.{Adding}
use Rattle.summand_expander.proofs.renewal.add_all.Given as goal

abbrev pub invariant-loop-var : goal.invariant-loop-var
invariant-loop-var l = Adding l.vars l.fn.set.keys l.var-index l.set.keys
