use Rattle.std.proofs.Common.{◌≡◌, take}
use Rattle.term_pool.specs.HeadTrees.{trees_at, AreIn}
use Rattle.lps_sumelm.specs.SummandsInCode.{parts_of_each}
use Rattle.lps_sumelm.proofs.solving.joined.Given as goal

abbrev pub invariant-loop-cond : goal.invariant-loop-cond
invariant-loop-cond l = (trees_at l.pool.trees l.parts.items ≡ parts_of_each (trees_at l.pool.trees (take l.cond-index l.conds))) × AreIn l.pool.trees l.parts.items
