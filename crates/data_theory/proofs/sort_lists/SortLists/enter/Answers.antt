use Rattle.std.proofs.Common.{◌≡◌, ◌++◌, ◌∷◌, [], sym, inr, ap, ◌∙◌, subst}
use Rattle.std.specs.Prelude.{Some, option_map}
use Rattle.std.specs.List.{Contains}
use Rattle.std.proofs.lemmas.Option.{slice_get-map}
use Rattle.data_theory.specs.Places.{HaveOnePlace, items_of_all}
use Rattle.data_theory.proofs.PlaceLemmas.{seen_pushed, map_pushed, one_place_pushed}
use Rattle.data_theory.proofs.IdLemmas.{vectors_tell}
use Rattle.data_theory.proofs.sort_lists.SortLists.enter.Goals as goal
use Rattle.data_theory.proofs.sort_lists.SortLists.enter.Goals.{In_ok-place}

is_new : (c : In_ok-place) → Contains (items_of_all c.self.inside.lists.keys) c.in_ok-from_slice.field-0.items → ⊥
is_new c h = c.in_default.ensures.found (subst (λ l. Contains l c.args.sorts.now) c.self.view_is (subst (Contains (items_of_all c.self.inside.lists.keys)) c.in_ok-from_slice.ensures.items h))

-- the list was new, and is now the last one
joined : (c : In_ok-place) → items_of_all c.insert_full.new.self.keys ≡ c.args.self.now ++ c.args.sorts.now ∷ []
joined c =
    ap items_of_all (seen_pushed (λ v. v.items) _ vectors_tell c.self.inside.lists.keys c.insert_full.new.self.keys c.in_ok-from_slice.field-0 (is_new c) c.in_ok-place.ensures.keys)
    ∙ map_pushed (λ v. v.items) _ vectors_tell c.self.inside.lists.keys c.in_ok-from_slice.field-0
    ∙ (λ i. c.self.view_is i ++ c.in_ok-from_slice.ensures.items i ∷ [])

one_place : (c : In_ok-place) → HaveOnePlace (items_of_all c.insert_full.new.self.keys)
one_place c = subst HaveOnePlace (sym (joined c)) (one_place_pushed c.args.self.now c.args.sorts.now (subst HaveOnePlace c.self.view_is c.self.invariant) c.in_default.ensures.found)

pub invariant_of-self-2 : goal.invariant_of-self-2
invariant_of-self-2 c = one_place c

pub returns-clause-entered : goal.returns-clause-entered
returns-clause-entered c = inr (c.in_default.ensures.found, joined c)

pub returns-clause-place : goal.returns-clause-place
returns-clause-place c =
    let stored = c.in_ok-place.ensures.stored in
    slice_get-map (λ v. v.items) c.insert_full.new.self.keys c.in_ok-place.place ∙ ap (option_map (λ v. v.items)) stored.1
    ∙ ap Some (sym (vectors_tell c.in_ok-from_slice.field-0 stored.0 stored.2) ∙ c.in_ok-from_slice.ensures.items)

pub returns-clause-different : goal.returns-clause-different
returns-clause-different c = one_place c
