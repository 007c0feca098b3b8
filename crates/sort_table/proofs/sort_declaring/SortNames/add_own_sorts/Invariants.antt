use Rattle.std.proofs.Common.{ℕ, ◌<◌}
use Rattle.sort_table.specs.DeclaringSorts.{GoesOn, OwnIsNamed}
use Rattle.sort_table.specs.IndexedKinds.{kinds_of_index}
use Rattle.sort_table.proofs.sort_declaring.SortNames.add_own_sorts.Given as goal

abbrev pub invariant-loop-place : goal.invariant-loop-place
invariant-loop-place l = record {
  on : GoesOn (kinds_of_index l.self.index) l.self.ids.items l.fn.signature l.signature;
  named : (p : ℕ) → p < l.place → OwnIsNamed (kinds_of_index l.self.index) p l.signature;
}
