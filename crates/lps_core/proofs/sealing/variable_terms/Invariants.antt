use Rattle.std.proofs.Common.{◌≡◌}
use Rattle.lps_core.proofs.SealingLoops.{IsTelling}
use Rattle.lps_core.proofs.sealing.variable_terms.Given as goal

abbrev pub invariant-loop-var : goal.invariant-loop-var
invariant-loop-var l = IsTelling l.fn.pool.trees l.vars l.var-index l.pool.trees l.terms.items × (l.pool.constants ≡ l.fn.pool.constants)
