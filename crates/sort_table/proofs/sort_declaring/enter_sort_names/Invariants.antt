use Rattle.std.proofs.Common.{◌≡◌, map, take}
use Rattle.data_theory.specs.Names.{with_texts}
use Rattle.sort_table.specs.Expressions.{Name}
use Rattle.sort_table.specs.SortMeanings.{Kind}
use Rattle.sort_table.specs.NamedSorts.{AreIdsOf}
use Rattle.sort_table.specs.IndexedKinds.{kinds_of_index}
use Rattle.sort_table.proofs.sort_declaring.enter_sort_names.Given as goal

abbrev pub invariant-loop-place : goal.invariant-loop-place
invariant-loop-place l = record {
  ids_are : AreIdsOf l.names (take l.place (kinds_of_index l.index)) l.ids.items;
  entered : l.names ≡ with_texts l.fn.names (map (λ (r : Name × Kind). r.0) (take l.place (kinds_of_index l.index)));
}
