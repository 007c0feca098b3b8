-- The first values of a sort for a bound are determined.
use Rattle.std.proofs.Common.{◌≡◌, ◌⊎◌, ⊎_elim, inl, inr, ◌≤◌, ℕ, zero, suc, List, [], ◌∷◌, length, refl, sym, subst, arith}
use Rattle.std.specs.List.{Contains}
use Rattle.data_theory.specs.declared.ids.SortId.{SortId}
use Rattle.data_theory.specs.Signature.{Sig}
use Rattle.term_pool.proofs.Lists.{contains_none, contains_cons, contains_head, contains_tail}
use Rattle.term_pool.specs.ConstructorValues.{ConstructorValue, ComesBefore}
use Rattle.value_enum.specs.Ascending.{Ascending}
use Rattle.value_enum.specs.Values.{AreFirst}
use Rattle.value_enum.proofs.ValueOrder.{not_before, not_both}

module _ (g : Sig) (s : SortId) where
  -- a value stands in the list, or behind all of it where it is full
  abbrev StandsOrFollows : ℕ → List ConstructorValue → ConstructorValue → Type 0
  StandsOrFollows n ws v = Contains ws v ⊎ ((length ws ≡ n) × ((w : ConstructorValue) → Contains ws w → ComesBefore g s w v))

  head_or_behind : (n : ℕ) (w v : ConstructorValue) (ws : List ConstructorValue) → Ascending (ComesBefore g s) (w ∷ ws) → StandsOrFollows n (w ∷ ws) v → (w ≡ v) ⊎ ComesBefore g s w v
  head_or_behind n w v ws p (inl h) = ⊎_elim inl (λ r. inr (p.0 v r)) (contains_cons w v ws h)
  head_or_behind n w v ws p (inr h) = inr (h.1 w (contains_head w ws))

  rest_of : (n : ℕ) (w v : ConstructorValue) (ws : List ConstructorValue) → ComesBefore g s w v → StandsOrFollows (suc n) (w ∷ ws) v → StandsOrFollows n ws v
  rest_of n w v ws before (inl h) = ⊎_elim (λ e. absurd (not_before g s w v before e)) inl (contains_cons w v ws h)
  rest_of n w v ws before (inr h) = let size = h.0 in inr (omega (arith, size), λ x m. h.1 x (contains_tail w x ws m))

  same_lists : (n : ℕ) (vs ws : List ConstructorValue) → Ascending (ComesBefore g s) vs → Ascending (ComesBefore g s) ws → length vs ≤ n → length ws ≤ n → ((v : ConstructorValue) → Contains vs v → StandsOrFollows n ws v)
      → ((w : ConstructorValue) → Contains ws w → StandsOrFollows n vs w) → vs ≡ ws
  same_lists n [] [] p q l m forth back = refl
  same_lists n [] (w ∷ ws) p q l m forth back = absurd (⊎_elim (contains_none w) (λ h. (let size = h.0 in omega (arith, size, m))) (back w (contains_head w ws)))
  same_lists n (v ∷ vs) [] p q l m forth back = absurd (⊎_elim (contains_none v) (λ h. (let size = h.0 in omega (arith, size, l))) (forth v (contains_head v vs)))
  same_lists zero (v ∷ vs) (w ∷ ws) p q l m forth back = absurd (omega (arith, l))
  same_lists (suc n) (v ∷ vs) (w ∷ ws) p q l m forth back =
      let rest =
      same_lists n vs ws p.1 q.1 (omega (arith, l)) (omega (arith, m)) (λ x h. rest_of n w x ws (subst (λ y. ComesBefore g s y x) heads (p.0 x h)) (forth x (contains_tail v x vs h)))
      (λ x h. rest_of n v x vs (subst (λ y. ComesBefore g s y x) (sym heads) (q.0 x h)) (back x (contains_tail w x ws h))) in
      λ i. heads i ∷ rest i
    where
      heads : v ≡ w
      heads =
          ⊎_elim sym
          (λ b. ⊎_elim (λ e. e) (λ c. absurd (not_both g s w v b c)) (head_or_behind (suc n) v w vs p (back w (contains_head w ws))))
          (head_or_behind (suc n) w v ws q (forth v (contains_head v vs)))

pub first_values_once : (g : Sig) (s : SortId) (bound : ℕ) (vs ws : List ConstructorValue) → AreFirst g s bound vs → AreFirst g s bound ws → vs ≡ ws
first_values_once g s bound vs ws p q =
    same_lists g s bound vs ws p.ascending q.ascending p.few q.few (λ v has. q.first v (p.values v has)) (λ w has. p.first w (q.values w has))
