use Rattle.std.proofs.Common.{◌≡◌, None, take}
use Rattle.sort_table.specs.IndexedKinds.{kinds_of_index}
use Rattle.sort_table.specs.UsedNames.{unknown_among, names_of_constructors}
use Rattle.sort_table.proofs.unknown_sorts.unknown_in_constructors.Given as goal

abbrev pub invariant-loop-constructor : goal.invariant-loop-constructor
invariant-loop-constructor l = unknown_among (kinds_of_index l.index) (names_of_constructors (take l.constructor-index l.constructors)) ≡ None
