-- A set of states with one state more.
use Rattle.std.specs.Prelude.{◌≡◌, ◌⊎◌, ◌↔◌, ◌++◌, ◌||◌, ◌&&◌, ◌==◌, ℕ, Bool, true, false, not, if◌then◌else◌, cond, List, [], ◌∷◌, map, length, Option, Some, None, option_map, Vec, IsTrue}
use Rattle.std.specs.Global.{Global}
use Rattle.std.specs.Bool.{Decides}
use Rattle.std.specs.Cmp.Lexicographic.{pointwise}
use Rattle.std.specs.List.{Contains, list_any}
use Rattle.std.proofs.Common.{refl, sym, subst, ap, ◌∙◌, inl, inr, ⊎_elim}
use Rattle.std.proofs.lemmas.Bool.Decides.{Decides-eqb, Decides-like}
use Rattle.std.proofs.lemmas.Slice.Eq.{slice_eq-Decides}
use Rattle.std.proofs.lemmas.List.Elements.{Contains-append_cases, Contains-append_left, Contains-append_right, Contains-push_cases, Contains-push}
use Rattle.bisim_laws.proofs.Firing.{contains_first, contains_later, contains_cases, contains_none}
use Rattle.data_theory.specs.declared.ids.TermId.{TermId}
use Rattle.data_theory.specs.contracts.ids.TermIdPartialEq.TheImpl as term_ids
use Rattle.lps_core.specs.PlainLinears.{plain_next}
use Rattle.lps_core.proofs.Members.{map_contains, contains_map}
use Rattle.trace_replay.specs.declared.states.States.{States}
use Rattle.trace_replay.specs.States.{running, ended_state, plain_states}

-- ---- equal vectors
terms_agree : (a b : TermId) → Decides (a.0 == b.0) (a ≡ b)
terms_agree a b = Decides-like (a.0 == b.0) (λ (e : a.0 ≡ b.0). ap (λ (n : ℕ). record { 0 = n }) e) (λ e. ap (λ (i : TermId). i.0) e) (Decides-eqb a.0 b.0)

pub vectors_tell : (x y : Vec TermId Global) → pointwise term_ids.eq-value.it x.items y.items ≡ true → x.items ≡ y.items
vectors_tell x y e = (slice_eq-Decides {A = TermId} {E = λ x y. x.0 == y.0} terms_agree x.items y.items _ refl).0 e

-- ---- keys
module _ (same : Vec TermId Global → Vec TermId Global → Bool) (tells : (x y : Vec TermId Global) → same x y ≡ true → x.items ≡ y.items) where
  abbrev items_of : List (Vec TermId Global) → List (List TermId)
  items_of ks = map (λ (v : Vec TermId Global). v.items) ks

  any_there : (k : Vec TermId Global) (ks : List (Vec TermId Global)) → list_any (same k) ks ≡ true → Contains (items_of ks) k.items
  any_there k [] e = absurd (cc e)
  any_there k (x ∷ xs) e = by_first (same k x) refl e (λ later. any_there k xs later)
    where
      by_first : (b : Bool) → same k x ≡ b → (same k x || list_any (same k) xs) ≡ true → (list_any (same k) xs ≡ true → Contains (items_of xs) k.items) → Contains (items_of (x ∷ xs)) k.items
      by_first true q h further = subst (Contains (items_of (x ∷ xs))) (sym (tells k x q)) (contains_first x.items (items_of xs))
      by_first false q h further = contains_later x.items k.items (items_of xs) (further (subst (λ (b : Bool). (b || list_any (same k) xs) ≡ true) q h))

  abbrev IsAdded : Vec TermId Global → List (Vec TermId Global) → List (Vec TermId Global) → Type 0
  IsAdded k old new = (ids : List TermId) → Contains (items_of new) ids ↔ (Contains (items_of old) ids ⊎ (ids ≡ k.items))

  key_added : (k : Vec TermId Global) (old new : List (Vec TermId Global)) → new ≡ (if list_any (same k) old then old else old ++ k ∷ []) → IsAdded k old new
  key_added k old new e = subst (IsAdded k old) (sym e) (by_any (list_any (same k) old) refl)
    where
      by_any : (b : Bool) → list_any (same k) old ≡ b → IsAdded k old (if b then old else old ++ k ∷ [])
      by_any true q ids = (λ i. inl i, λ h. ⊎_elim (λ i. i) (λ r. subst (Contains (items_of old)) (sym r) (any_there k old q)) h)
      by_any false q ids = (
        λ i. let r = contains_map (λ (v : Vec TermId Global). v.items) (old ++ k ∷ []) ids i in
            ⊎_elim (λ j. inl (subst (Contains (items_of old)) (sym r.1.1) (map_contains (λ (v : Vec TermId Global). v.items) old r.0 j))) (λ s. inr (r.1.1 ∙ ap (λ (v : Vec TermId Global). v.items) (sym s))) (Contains-push_cases old k r.0 r.1.0),
        λ h. ⊎_elim
            (λ i. let r = contains_map (λ (v : Vec TermId Global). v.items) old ids i in
            subst (Contains (items_of (old ++ k ∷ []))) (sym r.1.1) (map_contains (λ (v : Vec TermId Global). v.items) (old ++ k ∷ []) r.0 (Contains-append_left old (k ∷ []) r.0 r.1.0)))
            (λ s. subst (Contains (items_of (old ++ k ∷ []))) (sym s) (map_contains (λ (v : Vec TermId Global). v.items) (old ++ k ∷ []) k (Contains-push old k)))
            h,
      )

  -- ---- states
  abbrev some_ids : List (List TermId) → List (Option (List TermId))
  some_ids xs = map (λ (ids : List TermId). Some ids) xs

  pub running_added : (k : Vec TermId Global) (old new : States) (state : Option (Vec TermId Global)) → state ≡ Some k → new.ended ≡ old.ended → new.running.keys ≡ (if list_any (same k) old.running.keys then old.running.keys else old.running.keys ++ k ∷ [])
      → (o : Option (List TermId)) → Contains (plain_states new) o ↔ (Contains (plain_states old) o ⊎ (o ≡ plain_next state))
  running_added k old new state is ended keys o =
      let next : plain_next state ≡ Some k.items = ap plain_next is in (
        λ c. ⊎_elim
            (λ i. let r = contains_map (λ (ids : List TermId). Some ids) (running new) o i in
            ⊎_elim
            (λ j. inl (Contains-append_left (some_ids (running old)) (ended_state old.ended) o (subst (Contains (some_ids (running old))) (sym r.1.1) (map_contains (λ (ids : List TermId). Some ids) (running old) r.0 j))))
            (λ e. inr (r.1.1 ∙ ap (λ (ids : List TermId). Some ids) e ∙ sym next))
            ((key_added k old.running.keys new.running.keys keys r.0).0 r.1.0))
            (λ i. inl (Contains-append_right (some_ids (running old)) (ended_state old.ended) o (subst (λ (b : Bool). Contains (ended_state b) o) ended i)))
            (Contains-append_cases (some_ids (running new)) (ended_state new.ended) o c),
        λ h. ⊎_elim
            (λ c. ⊎_elim
            (λ i. let r = contains_map (λ (ids : List TermId). Some ids) (running old) o i in
            Contains-append_left (some_ids (running new)) (ended_state new.ended) o
            (subst (Contains (some_ids (running new))) (sym r.1.1) (map_contains (λ (ids : List TermId). Some ids) (running new) r.0 ((key_added k old.running.keys new.running.keys keys r.0).1 (inl r.1.0)))))
            (λ i. Contains-append_right (some_ids (running new)) (ended_state new.ended) o (subst (λ (b : Bool). Contains (ended_state b) o) (sym ended) i))
            (Contains-append_cases (some_ids (running old)) (ended_state old.ended) o c))
            (λ e. Contains-append_left (some_ids (running new)) (ended_state new.ended) o
            (subst (Contains (some_ids (running new))) (sym (e ∙ next)) (map_contains (λ (ids : List TermId). Some ids) (running new) k.items ((key_added k old.running.keys new.running.keys keys k.items).1 (inr refl)))))
            h,
      )

end_cases : (b : Bool) (o : Option (List TermId)) → Contains (ended_state b) o → o ≡ None
end_cases true o c = ⊎_elim (λ e. sym e) (λ i. absurd (contains_none o i)) (contains_cases None o [] c)
end_cases false o c = absurd (contains_none o c)

pub end_added : (old new : States) (state : Option (Vec TermId Global)) → state ≡ None → new.ended ≡ true → new.running ≡ old.running → (o : Option (List TermId)) → Contains (plain_states new) o ↔ (Contains (plain_states old) o ⊎ (o ≡ plain_next state))
end_added old new state is ended same o =
    let next : plain_next state ≡ None = ap plain_next is in
    let runs : running new ≡ running old = ap (λ r. map (λ (v : Vec TermId Global). v.items) r.keys) same in
    let there : Contains (ended_state new.ended) None = subst (λ (b : Bool). Contains (ended_state b) None) (sym ended) (contains_first None []) in (
      λ c. ⊎_elim
          (λ i. inl (Contains-append_left (map (λ (ids : List TermId). Some ids) (running old)) (ended_state old.ended) o (subst (λ (xs : List (List TermId)). Contains (map (λ (ids : List TermId). Some ids) xs) o) runs i)))
          (λ i. inr (end_cases new.ended o i ∙ sym next))
          (Contains-append_cases (map (λ (ids : List TermId). Some ids) (running new)) (ended_state new.ended) o c),
      λ h. ⊎_elim
          (λ c. ⊎_elim
          (λ i. Contains-append_left (map (λ (ids : List TermId). Some ids) (running new)) (ended_state new.ended) o (subst (λ (xs : List (List TermId)). Contains (map (λ (ids : List TermId). Some ids) xs) o) (sym runs) i))
          (λ i. Contains-append_right (map (λ (ids : List TermId). Some ids) (running new)) (ended_state new.ended) o (subst (Contains (ended_state new.ended)) (sym (end_cases old.ended o i)) there))
          (Contains-append_cases (map (λ (ids : List TermId). Some ids) (running old)) (ended_state old.ended) o c))
          (λ e. Contains-append_right (map (λ (ids : List TermId). Some ids) (running new)) (ended_state new.ended) o (subst (Contains (ended_state new.ended)) (sym (e ∙ next)) there))
          h,
    )

-- ---- no state
pub some_state : (states : States) → states.ended ≡ true → plain_states states ≡ [] → ⊥
some_state states ended e = contains_none None (subst (λ (os : List (Option (List TermId))). Contains os None) e (Contains-append_right (map (λ (ids : List TermId). Some ids) (running states)) (ended_state states.ended) None (subst (λ (b : Bool). Contains (ended_state b) None) (sym ended) (contains_first None []))))

pub none_where_empty : (states : States) → states.ended ≡ false → length states.running.keys ≡ 0 → plain_states states ≡ []
none_where_empty states ended none = by_keys states.running.keys none ∙ ap ended_state ended
  where
    by_keys : (ks : List (Vec TermId Global)) → length ks ≡ 0 → map (λ (ids : List TermId). Some ids) (map (λ (v : Vec TermId Global). v.items) ks) ++ ended_state states.ended ≡ ended_state states.ended
    by_keys [] e = refl
    by_keys (k ∷ ks) e = absurd (cc e)

pub empty_where_none : (states : States) → plain_states states ≡ [] → length states.running.keys ≡ 0
empty_where_none states none = by_keys states.running.keys none
  where
    by_keys : (ks : List (Vec TermId Global)) → map (λ (ids : List TermId). Some ids) (map (λ (v : Vec TermId Global). v.items) ks) ++ ended_state states.ended ≡ [] → length ks ≡ 0
    by_keys [] e = refl
    by_keys (k ∷ ks) e = absurd (cc e)
