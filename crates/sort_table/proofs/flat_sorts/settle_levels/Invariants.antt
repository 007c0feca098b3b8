use Rattle.std.proofs.Common.{ℕ, ◌<◌}
use Rattle.graphs.specs.Graphs.{HasEdge}
use Rattle.sort_table.specs.IndexedKinds.{kinds_of_index}
use Rattle.sort_table.specs.FlatSorts.{KeepsFlat, AliasIsSettled}
use Rattle.sort_table.proofs.flat_sorts.settle_levels.Given as goal

abbrev pub invariant-loop-level : goal.invariant-loop-level
invariant-loop-level l = record {
  on : KeepsFlat (kinds_of_index l.index) l.fn.sorts.items l.sorts.items;
  settled : (r p : ℕ) → r < l.level-index → HasEdge l.levels r p → AliasIsSettled (kinds_of_index l.index) p l.sorts.items;
}
