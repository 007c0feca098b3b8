use Rattle.std.proofs.Common.{◌≡◌, map, take}
use Rattle.lps_core.specs.Fitting.{sort_of_variable}
use Rattle.aut_check.proofs.equal_terms.sorts_of_variables.Given as goal

abbrev pub invariant-loop-var : goal.invariant-loop-var
invariant-loop-var l = l.sorts.items ≡ map (sort_of_variable l.sig) (take l.var-index l.vars)
