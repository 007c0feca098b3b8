use Rattle.std.proofs.Common.{ℕ, List, take}
use Rattle.sort_table.specs.NamedLists.{first_named}
use Rattle.sort_table.specs.NamedSorts.{AreIdsOf}
use Rattle.sort_table.specs.DeclaredNames.{own_among}
use Rattle.sort_table.specs.IndexedKinds.{kinds_of_index}
use Rattle.sort_table.proofs.sort_declaring.SortNames.own_ids.Given as goal

abbrev pub invariant-loop-place : goal.invariant-loop-place
invariant-loop-place l = (texts : List (List ℕ)) → AreIdsOf texts (kinds_of_index l.self.index) l.self.ids.items → AreIdsOf texts (own_among (λ n. first_named n (kinds_of_index l.self.index)) (take l.place (kinds_of_index l.self.index))) l.own.items
