use Rattle.std.proofs.Common.{◌≡◌}
use Rattle.summand_expander.proofs.RenewedFits.{IsRenewing}
use Rattle.summand_expander.proofs.renewed.renewed_summands.Given as goal

abbrev pub invariant-loop-summand : goal.invariant-loop-summand
invariant-loop-summand l = IsRenewing l.fn.pool.trees l.old l.new l.summands l.summand-index l.pool.trees l.made.items × (l.pool.constants ≡ l.fn.pool.constants)
