use Rattle.std.proofs.Common.{◌≡◌, ◌++◌, map, take}
use Rattle.mcrl2_syntax.specs.Words.{word_of, PlainWord}
use Rattle.mcrl2_syntax.specs.SortTrees.{plain_sort}
use Rattle.sort_table.specs.BareSorts.{bare_sort}
use Rattle.sort_table.specs.LentTrees.{expressions_of}
use Rattle.sort_table.proofs.sort_trees.add_group.Given as goal

abbrev pub invariant-loop-name : goal.invariant-loop-name
invariant-loop-name l = expressions_of l.list.items ≡ expressions_of l.fn.list.items ++ map (λ (w : PlainWord). bare_sort (plain_sort l.group.sort)) (map word_of (take l._name-index l._name-items))
