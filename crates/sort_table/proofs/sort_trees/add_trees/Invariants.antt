use Rattle.std.proofs.Common.{◌≡◌, ◌++◌, map, take}
use Rattle.mcrl2_syntax.specs.SortTrees.{plain_sort}
use Rattle.sort_table.specs.BareSorts.{bare_sort}
use Rattle.sort_table.specs.LentTrees.{expressions_of}
use Rattle.sort_table.proofs.sort_trees.add_trees.Given as goal

abbrev pub invariant-loop-tree : goal.invariant-loop-tree
invariant-loop-tree l = expressions_of l.list.items ≡ expressions_of l.fn.list.items ++ map bare_sort (map plain_sort (take l.tree-index l.trees))
