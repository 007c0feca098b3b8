use Rattle.sort_table.specs.DeclaringSorts.{AreByRank}
use Rattle.sort_table.proofs.alias_levels.by_rank.Given as goal

abbrev pub invariant-loop-place : goal.invariant-loop-place
invariant-loop-place l = AreByRank l.ranks l.place l.levels.items
