use Rattle.std.proofs.Common.{◌≡◌, ◌||◌, take}
use Rattle.std.specs.List.{list_any}
use Rattle.data_theory.specs.declared.ids.NameId.{NameId}
use Rattle.process_terms.specs.PlainProcesses.{items_of_each}
use Rattle.action_filters.specs.NameTests.{is_among}
use Rattle.action_filters.specs.Filters.{same_name}
use Rattle.summand_expander.proofs.nearby.add_members.Given as goal

abbrev pub invariant-loop-names : goal.invariant-loop-names
invariant-loop-names l = (x : NameId) → is_among same_name l.set.keys x ≡ (is_among same_name l.fn.set.keys x || list_any (λ v. is_among same_name v x) (items_of_each (take l.names-index l.sets)))
