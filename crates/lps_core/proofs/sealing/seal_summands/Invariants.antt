use Rattle.std.proofs.Common.{◌≡◌}
use Rattle.lps_core.proofs.SealingLoops.{IsSealing}
use Rattle.lps_core.proofs.sealing.seal_summands.Given as goal

abbrev pub invariant-loop-summand : goal.invariant-loop-summand
invariant-loop-summand l = IsSealing l.params l.phase l.fn.pool.trees l.summands l.summand-index l.pool.trees l.sealed.items × (l.pool.constants ≡ l.fn.pool.constants)
