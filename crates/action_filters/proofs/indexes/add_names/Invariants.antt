use Rattle.std.proofs.Common.{◌≡◌, ◌||◌, take}
use Rattle.data_theory.specs.declared.ids.NameId.{NameId}
use Rattle.action_filters.specs.NameTests.{is_among}
use Rattle.action_filters.specs.Filters.{same_name}
use Rattle.action_filters.proofs.indexes.add_names.Given as goal

abbrev pub invariant-loop-name : goal.invariant-loop-name
invariant-loop-name l = (x : NameId) → is_among same_name l.set.keys x ≡ (is_among same_name l.fn.set.keys x || is_among same_name (take l.name-index l.names) x)
