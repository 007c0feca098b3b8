use Rattle.std.proofs.Common.{List, sym, ap, ◌∙◌}
use Rattle.std.specs.Prelude.{option_map}
use denote.Ref.{Bor}
use Rattle.mcrl2_syntax.specs.SortTrees.{plain_sort}
use Rattle.sort_table.specs.Expressions.{Name}
use Rattle.sort_table.specs.BareSorts.{bare_sort}
use Rattle.sort_table.specs.IndexedKinds.{kinds_of_index}
use Rattle.sort_table.specs.UsedNames.{unknown_among}
use Rattle.sort_table.proofs.UsedNameLemmas.{no_leaf, its_leaf}
use Rattle.sort_table.proofs.unknown_sorts.unknown_in_sort.Goals as goal

pub returns-in-Some : goal.returns-in-Some
returns-in-Some c =
    c.unknown_name.ensures
    ∙ ap (λ (ns : List Name). unknown_among (kinds_of_index c.args.index.now) ns) (sym (its_leaf (bare_sort (plain_sort c.args.tree.now)) c.in-Some.name.now (sym c.tree_name.ensures ∙ ap (option_map (λ (n : Bor Name). n.now)) c.in-Some.is)))

pub returns-in-None : goal.returns-in-None
returns-in-None c =
    ap (λ (ns : List Name). unknown_among (kinds_of_index c.args.index.now) ns) (sym (no_leaf (bare_sort (plain_sort c.args.tree.now)) (sym c.tree_name.ensures ∙ ap (option_map (λ (n : Bor Name). n.now)) c.in-None.is)))
