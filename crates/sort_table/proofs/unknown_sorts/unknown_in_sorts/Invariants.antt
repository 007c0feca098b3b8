use Rattle.std.proofs.Common.{◌≡◌, None, take}
use Rattle.sort_table.specs.IndexedKinds.{kinds_of_index}
use Rattle.sort_table.specs.UsedNames.{unknown_among, names_of_trees}
use Rattle.sort_table.proofs.unknown_sorts.unknown_in_sorts.Given as goal

abbrev pub invariant-loop-tree : goal.invariant-loop-tree
invariant-loop-tree l = unknown_among (kinds_of_index l.index) (names_of_trees (take l.tree-index l.trees)) ≡ None
