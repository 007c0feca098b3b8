use Rattle.std.proofs.Common.{ℕ, ◌<◌}
use Rattle.graphs.specs.Graphs.{HasEdge}
use Rattle.sort_table.specs.DeclaringSorts.{GoesOn, AliasIsNamed}
use Rattle.sort_table.specs.IndexedKinds.{kinds_of_index}
use Rattle.sort_table.proofs.sort_declaring.SortNames.add_levels.Given as goal

abbrev pub invariant-loop-level : goal.invariant-loop-level
invariant-loop-level l = record {
  on : GoesOn (kinds_of_index l.self.index) l.self.ids.items l.fn.signature l.signature;
  named : (r p : ℕ) → r < l.level-index → HasEdge l.levels r p → AliasIsNamed (kinds_of_index l.self.index) p l.signature;
}
