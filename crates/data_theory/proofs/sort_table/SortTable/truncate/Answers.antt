use Rattle.std.proofs.Common.{◌≡◌, ◌≤◌, ℕ, Some, ◌∙◌, ap, sym, subst, take}
use Rattle.std.specs.Prelude.{slice_get}
use Rattle.data_theory.specs.Sorts.{SortInfo, AreLists, IsListKind, info_of, sorts_of}
use Rattle.data_theory.proofs.PlaceLemmas.{map_taken}
use Rattle.data_theory.proofs.ListSortLemmas.{lists_cut}
use Rattle.data_theory.proofs.sort_table.SortTable.truncate.Goals as goal

pub invariant_of-self : goal.invariant_of-self
invariant_of-self c =
    subst (λ ss. AreLists ss c.self.inside.lists.items) (sym (ap sorts_of c.truncate.ensures.items ∙ map_taken info_of c.args.length c.self.inside.entries.items))
    (lists_cut (sorts_of c.self.inside.entries.items) c.self.inside.lists.items c.args.length c.self.invariant
    (subst (λ ss. (i : ℕ) (s : SortInfo) → c.args.length ≤ i → slice_get ss i ≡ Some s → IsListKind s.kind → ⊥) (sym c.self.view_is) c.requires))

pub returns : goal.returns
returns c = ap sorts_of c.truncate.ensures.items ∙ map_taken info_of c.args.length c.self.inside.entries.items ∙ ap (take c.args.length) c.self.view_is
