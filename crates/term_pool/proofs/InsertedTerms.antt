-- What a set holds after terms were put into it.
use Rattle.std.proofs.Common.{◌≡◌, ◌<◌, arith, List, [], ◌∷◌, ◌++◌, refl, sym, ◌∙◌, subst, ⊎_elim, inl, inr, ◌⊎◌, ◌↔◌}
use Rattle.std.specs.List.{Contains}
use Rattle.std.specs.Ordering.{match_ordering}
use Rattle.std.specs.declared.cmp.Ordering.{Ordering}
use Rattle.std.specs.declared.cmp.Ordering.TheVariants.{Less, Equal, Greater}
use Rattle.std.specs.BTreeSet.{insert_key}
use Rattle.std.proofs.lemmas.List.Elements.{Contains-append_left, Contains-push, Contains-push_cases}
use Rattle.std.proofs.lemmas.Map.Lookups.{exact_unsigned}
use Rattle.std.proofs.lemmas.Bool.Decides.{nat_tests}
use Rattle.data_theory.specs.declared.ids.TermId.{TermId}
use Rattle.data_theory.specs.contracts.ids.TermIdOrd.TheImpl as for_id
use Rattle.term_pool.proofs.Lists.{contains_none, contains_cons, contains_head, contains_tail}

-- ks has what xs has, and k
abbrev pub HasToo : {K : Type 0} → List K → K → List K → Type 0
HasToo {K} xs k ks = (q : K) → Contains ks q ↔ (Contains xs q ⊎ (k ≡ q))

module _ {K : Type 0} (cmp : K → K → Ordering) (exact : (x y : K) → cmp x y ≡ Equal → x ≡ y) (k : K) where
  abbrev placed : Ordering → K → List K → List K
  placed o x xs = match_ordering o (k ∷ x ∷ xs) (x ∷ xs) (x ∷ insert_key cmp xs k)

  has_placed : (o : Ordering) (x : K) (xs : List K) → cmp k x ≡ o → HasToo xs k (insert_key cmp xs k) → HasToo (x ∷ xs) k (placed o x xs)
  has_placed Less x xs e more q =
      (λ h. ⊎_elim inr inl (contains_cons k q (x ∷ xs) h), λ h. ⊎_elim (λ old. contains_tail k q (x ∷ xs) old) (λ same. subst (Contains (k ∷ x ∷ xs)) same (contains_head k (x ∷ xs))) h)
  has_placed Equal x xs e more q =
      (inl, λ h. ⊎_elim (λ old. old) (λ same. subst (Contains (x ∷ xs)) (sym (exact k x e) ∙ same) (contains_head x xs)) h)
  has_placed Greater x xs e more q =
      let rest = insert_key cmp xs k in (
        λ h. ⊎_elim (λ same. inl (subst (Contains (x ∷ xs)) same (contains_head x xs))) (λ r. ⊎_elim (λ old. inl (contains_tail x q xs old)) inr ((more q).0 r)) (contains_cons x q rest h),
        λ h. ⊎_elim
            (λ old. ⊎_elim (λ same. subst (Contains (x ∷ rest)) same (contains_head x rest)) (λ r. contains_tail x q rest ((more q).1 (inl r))) (contains_cons x q xs old))
            (λ same. contains_tail x q rest ((more q).1 (inr same)))
            h,
      )

  pub has_inserted : (xs : List K) → HasToo xs k (insert_key cmp xs k)
  has_inserted [] q = (λ h. ⊎_elim inr (λ none. absurd (contains_none q none)) (contains_cons k q [] h), λ h. ⊎_elim (λ none. absurd (contains_none q none)) (λ same. subst (Contains (k ∷ [])) same (contains_head k [])) h)
  has_inserted (x ∷ xs) q = has_placed (cmp k x) x xs refl (has_inserted xs) q

-- new has what old has, and these
abbrev pub HasAll : {K : Type 0} → List K → List K → List K → Type 0
HasAll {K} old xs new = (q : K) → Contains new q ↔ (Contains old q ⊎ Contains xs q)

pub has_one_more : {K : Type 0} (old xs mid : List K) (x : K) (new : List K) → HasAll old xs mid → HasToo mid x new → HasAll old (xs ++ x ∷ []) new
has_one_more old xs mid x new all too q = (
  λ h. ⊎_elim (λ m. ⊎_elim inl (λ a. inr (Contains-append_left xs (x ∷ []) q a)) ((all q).0 m)) (λ same. inr (subst (Contains (xs ++ x ∷ [])) same (Contains-push xs x))) ((too q).0 h),
  λ h. ⊎_elim
      (λ o. (too q).1 (inl ((all q).1 (inl o))))
      (λ a. ⊎_elim (λ b. (too q).1 (inl ((all q).1 (inr b)))) (λ same. (too q).1 (inr same)) (Contains-push_cases xs x q a))
      h,
)

-- ---- ids by their numbers
abbrev pub compare_ids : TermId → TermId → Ordering
compare_ids = for_id.cmp-value.it

pub same_number : (i j : TermId) → compare_ids i j ≡ Equal → i ≡ j
same_number i j e = let same : i.0 ≡ j.0 = exact_unsigned i.0 j.0 e in λ k. record { 0 = same k }

pub lower_number : (i j : TermId) → compare_ids i j ≡ Less → i.0 < j.0
lower_number i j e = grind (arith, nat_tests)
