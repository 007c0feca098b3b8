use Rattle.std.proofs.Common.{◌≡◌, map}
use Rattle.term_pool.specs.Pools.{Extends}
use Rattle.lps_core.specs.PlainLinears.{plain_summand}
use Rattle.summand_expander.specs.Drafts.{plain_draft}
use Rattle.summand_expander.specs.SideMeanings.{AreJoined}
use Rattle.summand_expander.proofs.summands.all_finished.Given as goal

abbrev pub invariant-loop-draft : goal.invariant-loop-draft
invariant-loop-draft l = Extends l.fn.pool.trees l.pool.trees × (l.pool.constants ≡ l.fn.pool.constants) × AreJoined l.fn.pool.trees (map plain_draft l.yielded) l.pool.trees (map plain_summand l.made.items)
