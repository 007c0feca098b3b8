use Rattle.std.proofs.Common.{take}
use Rattle.sort_table.specs.IndexedKinds.{kinds_of_index}
use Rattle.sort_table.specs.NamedSorts.{ReadsSorts}
use Rattle.sort_table.specs.LentTrees.{expressions_of}
use Rattle.sort_table.specs.WrittenSorts.{AddsWritten}
use Rattle.sort_table.proofs.sort_declaring.SortNames.add_written.Given as goal

abbrev pub invariant-loop-tree : goal.invariant-loop-tree
invariant-loop-tree l = record {
  written : AddsWritten (expressions_of (take l.tree-index l.trees)) l.fn.signature l.signature;
  reads : ReadsSorts (kinds_of_index l.self.index) l.self.ids.items l.signature;
}
