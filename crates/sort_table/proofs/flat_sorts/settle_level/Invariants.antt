use Rattle.std.proofs.Common.{ℕ, take}
use Rattle.std.specs.List.{Contains}
use Rattle.sort_table.specs.IndexedKinds.{kinds_of_index}
use Rattle.sort_table.specs.FlatSorts.{KeepsFlat, AliasIsSettled}
use Rattle.sort_table.proofs.flat_sorts.settle_level.Given as goal

abbrev pub invariant-loop-place : goal.invariant-loop-place
invariant-loop-place l = record {
  on : KeepsFlat (kinds_of_index l.index) l.fn.sorts.items l.sorts.items;
  settled : (p : ℕ) → Contains (take l.place-index l.level) p → AliasIsSettled (kinds_of_index l.index) p l.sorts.items;
}
