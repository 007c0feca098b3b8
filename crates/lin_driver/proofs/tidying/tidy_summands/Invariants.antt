use Rattle.std.proofs.Common.{◌≡◌}
use Rattle.lin_driver.proofs.TidiedSummands.{IsTidying}
use Rattle.lin_driver.proofs.tidying.tidy_summands.Given as goal

abbrev pub invariant-loop-summand : goal.invariant-loop-summand
invariant-loop-summand l = IsTidying l.fn.pool.trees l.summands l.summand-index l.pool.trees l.made.items × (l.pool.constants ≡ l.fn.pool.constants)
