-- Sort trees as plain data, by what is inside.
use Rattle.std.proofs.Common.{◌≡◌, ap, sym, ◌∙◌}
use Rattle.std.specs.Global.{Box}
use Rattle.mcrl2_syntax.specs.declared.word.Span.{Span}
use Rattle.mcrl2_syntax.specs.declared.sort_tree.SortTree.{SortTree}
use Rattle.mcrl2_syntax.specs.declared.sort_tree.SortTree.TheVariants.{List, Brackets, rolls-List, rolls-Brackets}
use Rattle.mcrl2_syntax.specs.declared.sort_tree.SortTree.TheFolds.{fold-roll-SortTree}
use Rattle.mcrl2_syntax.specs.SortTrees.{PlainSort, list_sort, brackets_sort, plain_sort, plain_sort_step}

pub list_plain : (span : Span) (inner : Box SortTree) → plain_sort (List span inner) ≡ list_sort span (plain_sort inner.value)
list_plain span inner = ap plain_sort (sym (rolls-List span inner)) ∙ fold-roll-SortTree PlainSort plain_sort_step _

pub brackets_plain : (span : Span) (inner : Box SortTree) → plain_sort (Brackets span inner) ≡ brackets_sort span (plain_sort inner.value)
brackets_plain span inner = ap plain_sort (sym (rolls-Brackets span inner)) ∙ fold-roll-SortTree PlainSort plain_sort_step _
