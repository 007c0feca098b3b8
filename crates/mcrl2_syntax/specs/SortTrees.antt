-- Sort expressions as plain data.
use Rattle.mcrl2_syntax.specs.declared.word.Span.{Span}
use Rattle.mcrl2_syntax.specs.declared.sort_tree.SortTree.{SortTree}
use Rattle.mcrl2_syntax.specs.declared.sort_tree.SortTree.TheOpen as open_
use Rattle.mcrl2_syntax.specs.declared.sort_tree.SortTree.TheOpen.{SortTree-F}
use Rattle.mcrl2_syntax.specs.declared.sort_tree.SortTree.TheFolds.{fold-SortTree}
use Rattle.mcrl2_syntax.specs.Words.{PlainWord, word_of}

-- a sort expression, without where it lies in memory
pub data PlainSort : Type 0 where
  bool_sort : Span → PlainSort
  pos_sort : Span → PlainSort
  nat_sort : Span → PlainSort
  int_sort : Span → PlainSort
  list_sort : Span → PlainSort → PlainSort
  named_sort : PlainWord → PlainSort
  brackets_sort : Span → PlainSort → PlainSort

abbrev pub plain_sort_step : SortTree-F PlainSort → PlainSort
plain_sort_step (open_.Bool span) = bool_sort span
plain_sort_step (open_.Pos span) = pos_sort span
plain_sort_step (open_.Nat span) = nat_sort span
plain_sort_step (open_.Int span) = int_sort span
plain_sort_step (open_.List span element) = list_sort span element.value
plain_sort_step (open_.Name name) = named_sort (word_of name)
plain_sort_step (open_.Brackets span inner) = brackets_sort span inner.value

abbrev pub plain_sort : SortTree → PlainSort
plain_sort = fold-SortTree PlainSort plain_sort_step

-- where the sort expression stands
abbrev pub sort_span : PlainSort → Span
sort_span (bool_sort span) = span
sort_span (pos_sort span) = span
sort_span (nat_sort span) = span
sort_span (int_sort span) = span
sort_span (list_sort span element) = span
sort_span (named_sort name) = name.span
sort_span (brackets_sort span inner) = span
