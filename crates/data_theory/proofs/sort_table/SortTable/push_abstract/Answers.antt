use Rattle.std.proofs.Common.{◌≡◌, ◌++◌, ◌∷◌, [], ap, ◌∙◌, sym, subst}
use Rattle.std.proofs.lemmas.List.{map-append}
use Rattle.data_theory.specs.Sorts.{AreLists, sorts_of, info_of, abstract_sort}
use Rattle.data_theory.proofs.ListSortLemmas.{abstract_pushed}
use Rattle.data_theory.proofs.sort_table.SortTable.push_abstract.Goals as goal

pub invariant_of-self-2 : goal.invariant_of-self-2
invariant_of-self-2 c =
    let e : sorts_of c.push.new.self.items ≡ sorts_of c.self.inside.entries.items ++ abstract_sort c.args.name ∷ [] =
    ap sorts_of c.in_ok-push.ensures.items ∙ map-append info_of c.self.inside.entries.items _ in
    subst (λ ss. AreLists ss c.self.inside.lists.items) (sym e) (abstract_pushed (sorts_of c.self.inside.entries.items) c.self.inside.lists.items c.args.name c.self.invariant)
