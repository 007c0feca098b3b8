use Rattle.std.proofs.Common.{◌≡◌, None, take}
use Rattle.sort_table.specs.IndexedKinds.{kinds_of_index}
use Rattle.sort_table.specs.UsedNames.{unknown_among, names_of_field_trees}
use Rattle.sort_table.proofs.unknown_sorts.unknown_in_constructor.Given as goal

abbrev pub invariant-loop-field : goal.invariant-loop-field
invariant-loop-field l = unknown_among (kinds_of_index l.index) (names_of_field_trees (take l.field-index l.field-items)) ≡ None
