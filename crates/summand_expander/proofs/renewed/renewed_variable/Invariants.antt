use Rattle.summand_expander.proofs.NewVariables.{AreOthers}
use Rattle.summand_expander.proofs.renewed.renewed_variable.Given as goal

abbrev pub invariant-loop-number : goal.invariant-loop-number
invariant-loop-number l = AreOthers l.old l.number l.var
