use Rattle.std.proofs.Common.{◌≡◌}
use Rattle.std.specs.Prelude.{take}
use Rattle.summand_expander.specs.Renewals.{renewed_variables}
use Rattle.summand_expander.proofs.renewed.renewed_variables.Given as goal

abbrev pub invariant-loop-var : goal.invariant-loop-var
invariant-loop-var l = l.made.items ≡ renewed_variables l.old l.new (take l.var-index l.vars)
