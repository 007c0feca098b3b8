-- A closed term of each sort, and environments that have closed terms for all variables.
use Rattle.std.proofs.Common.{◌≡◌, ◌<◌, ℕ, zero, suc, Bool, true, false, List, [], ◌∷◌, length, refl, sym, ap, subst, arith, cond, ◌⊎◌, inl, inr, ⊎_elim, pos, lit<}
use Rattle.std.proofs.lemmas.Int.{ints}
use Rattle.data_theory.specs.Terms.{Sort, boolean, positive, natural, integer, list, named, Term, empty, numeral, application, none}
use Rattle.data_theory.specs.Declarations.{Data, IsSort, Declares, HasSort, NoSortIsEmpty}
use Rattle.data_theory.specs.Equations.{trueᵗ}
use Rattle.data_theory.specs.Environments.{Agree}
use Rattle.data_theory.specs.Rewriting.{AreSorts, Closes}
use Rattle.lps_core.proofs.SortedTerms.{HaveTerms}
use Rattle.lps_sumelm.specs.Solutions.{is_among}
use Rattle.lps_sumelm.proofs.SolvableParts.{among_is, is_there}

pub below : (d n : ℕ) → (d < n) ⊎ (d < n → ⊥)
below d zero = inr (λ h. omega (arith, h))
below zero (suc n) = inl (omega arith)
below (suc d) (suc n) = ⊎_elim (λ h. inl (omega (arith, h))) (λ k. inr (λ h. k (omega (arith, h)))) (below d n)

-- a closed term of each sort of the data
abbrev pub a_term : (g : Data) → NoSortIsEmpty g → Sort → Term
a_term g n boolean = trueᵗ
a_term g n positive = numeral positive (pos 1)
a_term g n natural = numeral natural (pos 0)
a_term g n integer = numeral integer (pos 0)
a_term g n (list s) = application (empty s) none
a_term g n (named d) = ⊎_elim (λ h. (n d h).0) (λ k. trueᵗ) (below d (length g.sorts))

pub inhabited : (g : Data) (n : NoSortIsEmpty g) (s : Sort) → IsSort g s → HasSort g [] (a_term g n s) s
inhabited g n boolean h = (tt, tt, refl, refl)
inhabited g n positive h = (refl, (omega (arith, ints), lit< tt))
inhabited g n natural h = (refl, (omega (arith, ints), lit< tt))
inhabited g n integer h = (refl, (tt, lit< tt))
inhabited g n (list s) h = (h, tt, refl, refl)
inhabited g n (named d) h = elim (below d (length g.sorts)) as (λ b. HasSort g [] (⊎_elim (λ k. (n d k).0) (λ k. trueᵗ) b) (named d)) [ inl k ↦ (n d k).1.1 | inr k ↦ absurd (k h) ]

-- ---- closed terms for all variables
-- the sort of a variable, where it has one
abbrev pub sort_there : List Sort → ℕ → Sort
sort_there [] v = boolean
sort_there (s ∷ vs) zero = s
sort_there (s ∷ vs) (suc v) = sort_there vs v

sort_is_there : (vs : List Sort) (v : ℕ) (s : Sort) → Declares vs v s → sort_there vs v ≡ s
sort_is_there [] v s d = absurd d
sort_is_there (a ∷ vs) zero s d = d
sort_is_there (a ∷ vs) (suc v) s d = sort_is_there vs v s d

module _ (g : Data) (n : NoSortIsEmpty g) (vs : List Sort) (sorts : AreSorts g vs) (xs : List ℕ) (e : ℕ → Term) (has : HaveTerms g vs xs e) where
  -- what e has for these variables, and some closed term for each other one
  abbrev pub closing : ℕ → Term
  closing v = cond (is_among v xs) (e v) (a_term g n (sort_there vs v))

  pub closing_closes : Closes g vs closing
  closing_closes v s d = by_test (is_among v xs) refl
    where
      by_test : (b : Bool) → is_among v xs ≡ b → HasSort g [] (cond b (e v) (a_term g n (sort_there vs v))) s
      by_test true q = has v s (among_is v xs q) d
      by_test false q = subst (λ a. HasSort g [] (a_term g n a) s) (sym (sort_is_there vs v s d)) (inhabited g n s (sorts v s d))

  pub closing_agrees : Agree xs closing e
  closing_agrees v i = ap (λ b. cond b (e v) (a_term g n (sort_there vs v))) (is_there v xs i)
