-- Terms that are provably equal in every closed instance over all later data are so in each environment with closed terms.
use Rattle.std.proofs.Common.{◌≡◌, ◌<◌, ◌≤◌, ◌⊎◌, inl, inr, ⊎_elim, ℕ, zero, suc, List, [], ◌∷◌, length, get_or, refl, sym, subst, arith, lit<}
use Rattle.std.specs.Prelude.{Contains, pos}
use Rattle.std.proofs.lemmas.Int.{ints}
use Rattle.std.proofs.lemmas.Bool.Decides.{eqb_tells}
use Rattle.data_theory.specs.Terms.{Sort, boolean, positive, natural, integer, list, named, truth, empty, Term, numeral, application, none, put}
use Rattle.data_theory.specs.Declarations.{Data, Declares, IsSort, HasSort, NoSortIsEmpty}
use Rattle.data_theory.specs.Environments.{IsOver}
use Rattle.data_theory.specs.Provable.{Equation}
use Rattle.data_theory.specs.Rewriting.{AreSorts, Closes}
use Rattle.data_theory.specs.Signature.{Sig}
use Rattle.data_theory.specs.IdData.{data_meant}
use Rattle.data_theory.proofs.EnvironmentLemmas.{contains_nothing, contains_first, contains_later, contains_cases, agreeing_give_the_same_term}
use Rattle.data_rewriter.specs.Simplifying.{AreLater}
use Rattle.process_terms.specs.Theories.{Theory, Equal}
use Rattle.lps_core.proofs.GrowingData.{sort_grown}
use Rattle.lps_core.proofs.SortedTerms.{HaveTerms, one_sort}
use Rattle.lps_core.proofs.Staying.{declares_at}
use Rattle.lps_constelm.specs.Simplified.{IsSimplerTerm}

pub among_or_not : (xs : List ℕ) (v : ℕ) → Contains xs v ⊎ (Contains xs v → ⊥)
among_or_not [] v = inr (λ i. contains_nothing v i)
among_or_not (x ∷ xs) v = ⊎_elim
    (λ k. inl (subst (λ z. Contains (x ∷ xs) z) k.1 (contains_first x xs)))
    (λ k. ⊎_elim (λ i. inl (contains_later x v xs i)) (λ n. inr (λ i. ⊎_elim (λ q. k.1 q) n (contains_cases x v xs i))) (among_or_not xs v))
    (eqb_tells x v)

below_or_not : (v n : ℕ) → (v < n) ⊎ (n ≤ v)
below_or_not v zero = inr (omega arith)
below_or_not zero (suc n) = inl (omega arith)
below_or_not (suc v) (suc n) = ⊎_elim (λ h. inl (omega (arith, h))) (λ h. inr (omega (arith, h))) (below_or_not v n)

declared_below : (vs : List Sort) (v : ℕ) (s : Sort) → Declares vs v s → length vs ≤ v → ⊥
declared_below [] v s h l = absurd h
declared_below (a ∷ vs) zero s h l = omega (arith, l)
declared_below (a ∷ vs) (suc v) s h l = declared_below vs v s h (omega (arith, l))

-- ---- a closed term of each sort
a_value : (g : Data) → NoSortIsEmpty g → (s : Sort) → IsSort g s → (t : Term) × HasSort g [] t s
a_value g some boolean k = (application truth none, (tt, tt, refl, refl))
a_value g some positive k = (numeral positive (pos 1), (refl, (omega (arith, ints), lit< tt)))
a_value g some natural k = (numeral natural (pos 0), (refl, (omega (arith, ints), lit< tt)))
a_value g some integer k = (numeral integer (pos 0), (refl, (tt, lit< tt)))
a_value g some (list s) k = (application (empty s) none, (k, tt, refl, refl))
a_value g some (named d) k = let t = some d k in (t.0, t.1.1)

-- ---- closed terms for all variables
module _ (g : Sig) (own : List Equation) (th : Theory) (later : AreLater g own th.declared th.equations) (some : NoSortIsEmpty th.declared) (vs : List Sort) (are : AreSorts (data_meant g) vs) (xs : List ℕ) (e : ℕ → Term) (terms : HaveTerms th.declared vs xs e) where
  -- what a variable is read as: what e has for it, where it is one of these
  record Value (v : ℕ) : Type 0 where
    value : Term
    closed : (s : Sort) → Declares vs v s → HasSort th.declared [] value s
    same : Contains xs v → e v ≡ value

  declared_value : (v : ℕ) → v < length vs → Contains xs v ⊎ (Contains xs v → ⊥) → Value v
  declared_value v l (inl i) = record { value = e v; closed = λ s d. terms v s i d; same = λ j. refl }
  declared_value v l (inr n) =
      let s = get_or vs v boolean in
      let d = declares_at vs v l in
      let u = a_value th.declared some s (sort_grown (data_meant g) th.declared later.grows s (are v s d)) in
      record { value = u.0; closed = λ a k. subst (λ z. HasSort th.declared [] u.0 z) (one_sort vs v s a d k) u.1; same = λ j. absurd (n j) }

  value_of : (v : ℕ) → Value v
  value_of v = ⊎_elim (λ l. declared_value v l (among_or_not xs v)) (λ l. record { value = e v; closed = λ a k. absurd (declared_below vs v a k l); same = λ j. refl }) (below_or_not v (length vs))

  abbrev values_of : ℕ → Term
  values_of v = (value_of v).value

  values_are : (t : Term) → IsOver xs t → put e t ≡ put values_of t
  values_are t i = agreeing_give_the_same_term xs e values_of (λ v j. (value_of v).same j) t i

  values_close : Closes th.declared vs values_of
  values_close v s d = (value_of v).closed s d

  pub simpler_is_equal : (IsSimple : Term → Type 0) (t u : Term) (s : Sort) → IsSimplerTerm g own IsSimple t u → IsOver xs t → HasSort (data_meant g) vs t s → Equal th (put e t) (put e u)
  simpler_is_equal IsSimple t u s h i k =
      subst (λ z. Equal th z (put e u)) (sym (values_are t i))
      (subst (λ z. Equal th (put values_of t) z) (sym (values_are u (h.variables xs i)))
      (h.equal vs are s k th.declared th.equations later values_of values_close))
