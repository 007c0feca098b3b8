use Rattle.std.proofs.Common.{take, sym, subst}
use Rattle.mcrl2_syntax.specs.SortTrees.{plain_sort}
use Rattle.sort_table.specs.BareSorts.{bare_sort}
use Rattle.sort_table.specs.LentTrees.{expressions_of}
use Rattle.sort_table.specs.WrittenSorts.{AddsWritten}
use Rattle.sort_table.proofs.KeptFunctions.{named_kept, lists_keep}
use Rattle.sort_table.proofs.WrittenSortLemmas.{nothing_written, written_then, more_expressions, expression_among}
use Rattle.sort_table.proofs.sort_declaring.SortNames.add_written.Goals as goal

pub loop-tree-init : goal.loop-tree-init
loop-tree-init c = record { written = nothing_written c.args.signature.now; reads = c.requires.reads }

pub sort_of_tree-requires-clause-named : goal.sort_of_tree-requires-clause-named
sort_of_tree-requires-clause-named c = λ n leaf.
    let g = c.args.signature.now in
    named_kept g c.loop-tree.signature (lists_keep g c.loop-tree.signature c.names.ensures.stands c.loop-tree.invariant.written.lists) n
    (c.requires.named (bare_sort (plain_sort c.tree-item.result.now)) (expression_among c.args.trees.now c.loop-tree.tree-index c.tree-item.result c.loop-tree-test.true c.tree-item.is) n leaf)

pub loop-tree-preserved : goal.loop-tree-preserved
loop-tree-preserved c =
    let g = c.args.signature.now in
    let h = c.loop-tree.signature in
    let k = c.sort_of_tree.new.signature in
    let e = bare_sort (plain_sort c.tree-item.result.now) in
    record {
      written = subst (λ es. AddsWritten es g k) (sym (more_expressions c.args.trees.now c.loop-tree.tree-index c.tree-item.result c.loop-tree-test.true c.tree-item.is))
          (written_then g h k (expressions_of (take c.loop-tree.tree-index c.args.trees.now)) e c.in_ok-sort_of_tree.field-0 c.names.ensures.stands c.loop-tree.invariant.written c.in_ok-sort_of_tree.ensures.added c.in_ok-sort_of_tree.ensures.names
          (record { within = c.in_ok-sort_of_tree.ensures.within; meant = c.in_ok-sort_of_tree.ensures.sort }) c.in_ok-sort_of_tree.ensures.lists);
      reads = c.in_ok-sort_of_tree.ensures.reads;
    }
