use Rattle.std.proofs.Common.{◌≡◌, ◌++◌, ◌∷◌, [], ap, ◌∙◌, sym, subst, length, arith, Some, ℕ}
use Rattle.std.specs.Prelude.{slice_set}
use Rattle.std.proofs.lemmas.List.{map-append, length-map}
use Rattle.data_theory.specs.Sorts.{AreLists, sorts_of, info_of, list_sort}
use Rattle.data_theory.proofs.ListSortLemmas.{list_pushed, same_answers}
use Rattle.data_theory.proofs.sort_table.SortTable.push_list.Goals as goal

pub invariant_of-self-2 : goal.invariant_of-self-2
invariant_of-self-2 c =
    let e : sorts_of c.push.new.self.items ≡ sorts_of c.self.inside.entries.items ++ list_sort c.args.element ∷ [] =
    ap sorts_of c.in_ok-push.ensures.items ∙ map-append info_of c.self.inside.entries.items _ in
    let n : length (sorts_of c.self.inside.entries.items) ≡ c.len.result = omega (arith, c.len.ensures, c.self.inside.entries.ok.0, length-map c.self.inside.entries.items info_of) in
    subst (λ ss. AreLists ss (slice_set c.make_room.new.lists.items c.args.element.0 (Some (record { 0 = c.len.result })))) (sym e)
    (subst (λ (k : ℕ). AreLists (sorts_of c.self.inside.entries.items ++ list_sort c.args.element ∷ []) (slice_set c.make_room.new.lists.items c.args.element.0 (Some (record { 0 = k })))) n
    (list_pushed (sorts_of c.self.inside.entries.items) c.make_room.new.lists.items c.args.element
    (same_answers _ c.self.inside.lists.items _ c.self.invariant c.make_room.ensures.kept) c.in_ok-make_room.ensures.room))
