-- Sort expressions, without where they stand and without brackets.
use Rattle.mcrl2_syntax.specs.SortTrees as trees
use Rattle.mcrl2_syntax.specs.SortTrees.{PlainSort}
use Rattle.sort_table.specs.Expressions.{Name}

pub data SortExpression : Type 0 where
  truth_values : SortExpression
  positives : SortExpression
  naturals : SortExpression
  integers : SortExpression
  lists_of : SortExpression → SortExpression
  a_name : Name → SortExpression

abbrev pub bare_sort : PlainSort → SortExpression
bare_sort (trees.bool_sort span) = truth_values
bare_sort (trees.pos_sort span) = positives
bare_sort (trees.nat_sort span) = naturals
bare_sort (trees.int_sort span) = integers
bare_sort (trees.list_sort span s) = lists_of (bare_sort s)
bare_sort (trees.named_sort w) = a_name w.bytes
bare_sort (trees.brackets_sort span s) = bare_sort s
