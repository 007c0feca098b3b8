use Rattle.greibach.proofs.ListedTerms.{IsLookingUp}
use Rattle.greibach.proofs.environments.term_for.Given as goal

abbrev pub invariant-loop-listed : goal.invariant-loop-listed
invariant-loop-listed l = IsLookingUp l.by l.var l.listed-index
