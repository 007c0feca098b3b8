use Rattle.std.proofs.Common.{◌≡◌, take}
use Rattle.greibach.specs.ListedVariables.{paired}
use Rattle.greibach.proofs.environments.bound_to.Given as goal

abbrev pub invariant-loop-number : goal.invariant-loop-number
invariant-loop-number l = l.by.items ≡ paired (take l.number l.vars) (take l.number l.terms)
