-- Sort expressions that are lent from a tree.
use Rattle.std.specs.Prelude.{List, map}
use denote.Ref.{Bor}
use Rattle.mcrl2_syntax.specs.declared.sort_tree.SortTree.{SortTree}
use Rattle.mcrl2_syntax.specs.SortTrees.{plain_sort}
use Rattle.sort_table.specs.BareSorts.{SortExpression, bare_sort}

abbrev pub expressions_of : List (Bor SortTree) → List SortExpression
expressions_of ts = map (λ (t : Bor SortTree). bare_sort (plain_sort t.now)) ts
