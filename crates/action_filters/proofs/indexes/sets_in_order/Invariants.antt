use Rattle.std.proofs.Common.{◌≡◌, List, take}
use Rattle.std.specs.List.{list_any}
use Rattle.data_theory.specs.declared.ids.NameId.{NameId}
use Rattle.process_terms.specs.PlainProcesses.{items_of_each}
use Rattle.action_filters.specs.Filters.{same_name}
use Rattle.action_filters.specs.Indexes.{AreInOrder}
use Rattle.action_filters.specs.NameTests.{is_permuted}
use Rattle.action_filters.proofs.indexes.sets_in_order.Given as goal

abbrev pub invariant-loop-set : goal.invariant-loop-set
invariant-loop-set l = AreInOrder l.found.keys × ((ns : List NameId) → list_any (is_permuted same_name ns) (items_of_each l.found.keys) ≡ list_any (is_permuted same_name ns) (items_of_each (take l.set-index l.sets)))
