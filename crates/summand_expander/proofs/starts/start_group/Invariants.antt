use Rattle.std.proofs.Common.{◌≡◌}
use Rattle.summand_expander.proofs.StartingLoops.{IsStarting}
use Rattle.summand_expander.proofs.starts.start_group.Given as goal

abbrev pub invariant-loop-summand : goal.invariant-loop-summand
invariant-loop-summand l = IsStarting l.fn.pool.trees l.flag l.may_be_first l.summands l.summand-index l.pool.trees l.made.items × (l.pool.constants ≡ l.fn.pool.constants)
