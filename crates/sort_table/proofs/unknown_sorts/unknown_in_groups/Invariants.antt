use Rattle.std.proofs.Common.{◌≡◌, None, take}
use Rattle.sort_table.specs.IndexedKinds.{kinds_of_index}
use Rattle.sort_table.specs.UsedNames.{unknown_among, names_of_groups}
use Rattle.sort_table.proofs.unknown_sorts.unknown_in_groups.Given as goal

abbrev pub invariant-loop-group : goal.invariant-loop-group
invariant-loop-group l = unknown_among (kinds_of_index l.index) (names_of_groups (take l.group-index l.groups)) ≡ None
