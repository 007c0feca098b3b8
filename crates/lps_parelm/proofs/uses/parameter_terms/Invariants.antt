use Rattle.std.proofs.Common.{◌≡◌}
use Rattle.lps_parelm.proofs.UseLoops.{ListsVariables}
use Rattle.lps_parelm.proofs.uses.parameter_terms.Given as goal

abbrev pub invariant-loop-param : goal.invariant-loop-param
invariant-loop-param l = ListsVariables l.fn.pool.trees l.params l.param-index l.pool.trees l.terms.items × (l.pool.constants ≡ l.fn.pool.constants)
