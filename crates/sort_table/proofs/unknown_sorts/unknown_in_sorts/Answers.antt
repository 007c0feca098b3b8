use Rattle.std.specs.Prelude.{not, is_some}
use Rattle.mcrl2_syntax.specs.SortTrees.{plain_sort}
use Rattle.sort_table.specs.NamedLists.{first_named}
use Rattle.sort_table.specs.BareSorts.{bare_sort}
use Rattle.sort_table.specs.UnknownSorts.{name_in}
use Rattle.sort_table.specs.IndexedKinds.{kinds_of_index}
use Rattle.sort_table.specs.UsedNames.{names_of_trees}
use Rattle.sort_table.proofs.Searches.{further, here}
use Rattle.sort_table.proofs.UsedNameLemmas.{trees_listed}
use Rattle.sort_table.proofs.unknown_sorts.unknown_in_sorts.Goals as goal

pub returns-in-Some : goal.returns-in-Some
returns-in-Some c =
    here names_of_trees (λ t. name_in (bare_sort (plain_sort t))) (λ n. not (is_some (first_named n (kinds_of_index c.args.index.now)))) trees_listed c.args.trees.now c.loop-tree.tree-index c.tree-item.result c.unknown_in_sort.result c.in-Some.name c.loop-tree-test.true c.tree-item.is c.loop-tree.invariant c.unknown_in_sort.ensures c.in-Some.is

pub loop-tree-preserved : goal.loop-tree-preserved
loop-tree-preserved c =
    further names_of_trees (λ t. name_in (bare_sort (plain_sort t))) (λ n. not (is_some (first_named n (kinds_of_index c.args.index.now)))) trees_listed c.args.trees.now c.loop-tree.tree-index c.tree-item.result c.unknown_in_sort.result c.loop-tree-test.true c.tree-item.is c.loop-tree.invariant c.unknown_in_sort.ensures c.in_default.is
