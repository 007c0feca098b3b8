use Rattle.std.proofs.Common.{◌∙◌, ap, sym, subst}
use Rattle.data_theory.specs.Sorts.{AreLists, IsBare, kind_of, sorts_of, with_kind}
use Rattle.data_theory.proofs.ListSortLemmas.{kind_set, entry_set}
use Rattle.data_theory.proofs.sort_table.SortTable.set_kind.Goals as goal

pub invariant_of-self : goal.invariant_of-self
invariant_of-self c =
    subst (λ ss. AreLists ss c.self.inside.lists.items) (sym (entry_set c.self.inside.entries.items c.args.sort.0 c.args.kind c.index_mut.result.now c.index_mut.ensures.value))
    (kind_set (sorts_of c.self.inside.entries.items) c.self.inside.lists.items c.args.sort (kind_of c.args.kind) c.self.invariant (subst (λ ss. IsBare ss c.args.sort) (sym c.self.view_is) c.requires.bare) c.requires.no_list)

pub returns : goal.returns
returns c =
    entry_set c.self.inside.entries.items c.args.sort.0 c.args.kind c.index_mut.result.now c.index_mut.ensures.value
    ∙ ap (λ ss. with_kind ss c.args.sort.0 (kind_of c.args.kind)) c.self.view_is
