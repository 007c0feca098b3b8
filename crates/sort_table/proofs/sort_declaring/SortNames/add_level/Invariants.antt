use Rattle.std.proofs.Common.{ℕ, take}
use Rattle.std.specs.List.{Contains}
use Rattle.sort_table.specs.DeclaringSorts.{GoesOn, AliasIsNamed}
use Rattle.sort_table.specs.IndexedKinds.{kinds_of_index}
use Rattle.sort_table.proofs.sort_declaring.SortNames.add_level.Given as goal

abbrev pub invariant-loop-place : goal.invariant-loop-place
invariant-loop-place l = record {
  on : GoesOn (kinds_of_index l.self.index) l.self.ids.items l.fn.signature l.signature;
  named : (p : ℕ) → Contains (take l.place-index l.level) p → AliasIsNamed (kinds_of_index l.self.index) p l.signature;
}
