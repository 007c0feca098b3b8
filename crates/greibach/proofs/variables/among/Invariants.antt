use Rattle.std.proofs.Common.{◌≡◌, take}
use Rattle.greibach.specs.OccurringVariables.{those_among}
use Rattle.greibach.proofs.variables.among.Given as goal

abbrev pub invariant-loop-var : goal.invariant-loop-var
invariant-loop-var l = l.found.items ≡ those_among (take l.var-index l.vars) l.set.keys
