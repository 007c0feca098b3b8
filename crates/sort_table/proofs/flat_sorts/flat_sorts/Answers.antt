use Rattle.std.proofs.Common.{◌∙◌, List, [], ◌∷◌, refl, sym, ap}
use Rattle.std.specs.Prelude.{Some}
use Rattle.sort_table.specs.declared.flat_sorts.FlatSort.{FlatSort}
use Rattle.sort_table.specs.IndexedKinds.{kinds_of_index}
use Rattle.sort_table.specs.FlatSorts.{expression_of, expressions_of}
use Rattle.sort_table.proofs.Searches.{IsListed}
use Rattle.sort_table.proofs.FlatSortLemmas.{flats_further, flats_stop}
use Rattle.sort_table.proofs.flat_sorts.flat_sorts.Goals as goal

listed : IsListed expressions_of (λ t. expression_of t ∷ [])
listed = record { of_none = refl; of_more = λ t ts. refl }

pub returns-in_default : goal.returns-in_default
returns-in_default c =
    flats_stop (kinds_of_index c.args.index.now) c.args.sorts.now expressions_of expression_of listed c.args.trees.now c.loop-tree.tree-index c.tree-item.result c.loop-tree.list.items c.loop-tree-test.true c.tree-item.is c.loop-tree.invariant
    (sym c.in_default.is ∙ c.in_ok-sort.ensures)

pub loop-tree-preserved : goal.loop-tree-preserved
loop-tree-preserved c =
    flats_further (kinds_of_index c.args.index.now) c.args.sorts.now expressions_of expression_of listed c.args.trees.now c.loop-tree.tree-index c.tree-item.result c.in-Some.sort c.loop-tree.list.items c.loop-tree-test.true c.tree-item.is c.loop-tree.invariant
    (sym c.in-Some.is ∙ c.in_ok-sort.ensures) ∙ ap (λ (ss : List FlatSort). Some ss) (sym c.in_ok-push.ensures.items)
