use Rattle.std.proofs.Common.{rules}
use Rattle.mcrl2_syntax.specs.SortTrees.{plain_sort}
use Rattle.sort_table.specs.BareSorts.{bare_sort}
use Rattle.sort_table.specs.EnteredFunctions.{HasSortOf, IsReadable}
use Rattle.sort_table.proofs.KeptFunctions.{nothing_yet, next_pair, pair_read}
use Rattle.sort_table.proofs.sort_declaring.SortNames.sorts_of_trees.Goals as goal

pub loop-tree-init : goal.loop-tree-init
loop-tree-init c = nothing_yet (HasSortOf c.args.signature.now) c.new-sorts.result.items (search rules)

pub sort_there-requires-clause-there : goal.sort_there-requires-clause-there
sort_there-requires-clause-there c = pair_read (IsReadable c.args.signature.now) plain_sort bare_sort c.args.trees.now c.loop-tree.tree-index c.tree-item.result c.loop-tree-test.true c.tree-item.is c.requires.there

pub loop-tree-preserved : goal.loop-tree-preserved
loop-tree-preserved c =
    next_pair (HasSortOf c.args.signature.now) plain_sort bare_sort c.args.trees.now c.loop-tree.tree-index c.tree-item.result c.loop-tree.sorts.items c.push.new.self.items c.sort_there.result c.loop-tree-test.true c.tree-item.is
    c.loop-tree.invariant c.sort_there.ensures c.in_ok-push.ensures.items
