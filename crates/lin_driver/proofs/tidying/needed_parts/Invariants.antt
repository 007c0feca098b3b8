use Rattle.term_pool.specs.HeadTrees.{trees_at}
use Rattle.lin_driver.proofs.NeededTrees.{IsOpening, weights}
use Rattle.lin_driver.proofs.tidying.needed_parts.Given as goal

abbrev pub invariant-loop-last : goal.invariant-loop-last
invariant-loop-last l = IsOpening l.pool.trees l.fn.cond l.parts.items

abbrev pub decreases-loop-last : goal.decreases-loop-last
decreases-loop-last l = weights (trees_at l.pool.trees l.parts.items)
