use Rattle.std.proofs.Common.{◌≡◌, ◌++◌, map, take}
use Rattle.std.specs.List.{AllByRecursion}
use Rattle.mcrl2_syntax.specs.Words.{PlainWord, word_of}
use Rattle.data_typing.specs.FlatSorts.{flat_sort}
use Rattle.sort_checker.specs.CodeContexts.{parameter_of, IsParameterOver}
use Rattle.sort_checker.proofs.table_building.add_group.Given as goal

abbrev pub invariant-loop-word : goal.invariant-loop-word
invariant-loop-word l = record {
  means : map parameter_of l.list.items ≡ map parameter_of l.fn.list.items ++ map (λ (w : PlainWord). (w.bytes, flat_sort l.sort)) (map word_of (take l.word-index l.word-items));
  over : AllByRecursion (IsParameterOver l.sig) l.fn.list.items → AllByRecursion (IsParameterOver l.sig) l.list.items;
}
