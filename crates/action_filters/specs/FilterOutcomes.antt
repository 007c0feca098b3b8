-- What comes out of a label of a linear process in code, by the filter.
use Rattle.std.specs.Prelude.{List, Option}
use Rattle.data_theory.specs.Signature.{Sig}
use Rattle.process_terms.specs.PlainProcesses.{PlainAction, items_of_each}
use Rattle.action_filters.specs.declared.labels.Filter.{Filter}
use Rattle.action_filters.specs.declared.labels.Filter.TheVariants.{Allow, Block, Hide, Rename}
use Rattle.action_filters.specs.Indexes.{AreInOrder}
use Rattle.action_filters.specs.LabelFilters.{allowed_label, unblocked_label, shown_label}
use Rattle.action_filters.specs.Filters.{naming, renamed_label, HaveTargets}

abbrev pub outcome : Sig → Filter → List PlainAction → Option (List PlainAction)
outcome g (Allow sets) = allowed_label (naming g) (items_of_each sets.keys)
outcome g (Block names) = unblocked_label (naming g) names.keys
outcome g (Hide names) = shown_label (naming g) names.keys
outcome g (Rename pairs) = renamed_label g pairs.entries

-- what stands in a filter is as its labels are looked up: sets are in order, and each new name has its actions
abbrev pub Serves : Sig → Filter → Type 0
Serves g (Allow sets) = AreInOrder sets.keys
Serves g (Block names) = Unit {0}
Serves g (Hide names) = Unit {0}
Serves g (Rename pairs) = HaveTargets g pairs.entries
