use Rattle.std.proofs.Common.{◌≡◌, map, take}
use Rattle.lps_core.specs.Fitting.{sort_of_variable}
use Rattle.lin_tasks.proofs.state_texts.sorts_of.Given as goal

abbrev pub invariant-loop-variable : goal.invariant-loop-variable
invariant-loop-variable l = l.sorts.items ≡ map (sort_of_variable l.sig) (take l.variable-index l.variables)
