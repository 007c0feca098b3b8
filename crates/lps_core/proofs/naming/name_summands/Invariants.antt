use Rattle.std.proofs.Common.{◌≡◌}
use Rattle.std.specs.List.{Contains}
use Rattle.lps_core.proofs.NamingLoops.{IsNamingSummands}
use Rattle.lps_core.proofs.naming.name_summands.Given as goal

abbrev pub invariant-loop-summand : goal.invariant-loop-summand
invariant-loop-summand l = IsNamingSummands (λ n. Contains l.used.keys n) l.fn.sig l.fn.pool.trees l.summands l.summand-index l.sig l.pool.trees l.named.items × (l.pool.constants ≡ l.fn.pool.constants)
