use Rattle.std.proofs.Common.{map, take}
use Rattle.mcrl2_syntax.specs.SortTrees.{plain_sort}
use Rattle.sort_table.specs.BareSorts.{bare_sort}
use Rattle.sort_table.specs.EnteredFunctions.{HaveSortsOf}
use Rattle.sort_table.proofs.sort_declaring.SortNames.sorts_of_trees.Given as goal

abbrev pub invariant-loop-tree : goal.invariant-loop-tree
invariant-loop-tree l = HaveSortsOf l.signature (map bare_sort (map plain_sort (take l.tree-index l.trees))) l.sorts.items
