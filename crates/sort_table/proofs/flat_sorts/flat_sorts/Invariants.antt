use Rattle.std.proofs.Common.{◌≡◌, take}
use Rattle.std.specs.Prelude.{Some}
use Rattle.sort_table.specs.IndexedKinds.{kinds_of_index}
use Rattle.sort_table.specs.FlatSorts.{flats_in, expressions_of}
use Rattle.sort_table.proofs.flat_sorts.flat_sorts.Given as goal

abbrev pub invariant-loop-tree : goal.invariant-loop-tree
invariant-loop-tree l = flats_in (kinds_of_index l.index) l.sorts (expressions_of (take l.tree-index l.trees)) ≡ Some l.list.items
