use Rattle.std.proofs.Common.{◌≡◌, take}
use Rattle.sort_table.specs.SortMeanings.{kinds_in}
use Rattle.sort_table.specs.DeclarationTrees.{declarations_under}
use Rattle.sort_table.specs.IndexedKinds.{kinds_of_index}
use Rattle.sort_table.proofs.sort_indexes.sort_index.Given as goal

abbrev pub invariant-loop-declaration : goal.invariant-loop-declaration
invariant-loop-declaration l = kinds_of_index l.index ≡ kinds_in (declarations_under (take l.declaration-index l.declarations))
