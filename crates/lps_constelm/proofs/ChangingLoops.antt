-- Steps of the loops that find the parameters that change.
use Rattle.std.proofs.Common.{◌≡◌, ◌<◌, ◌≤◌, ◌+◌, ◌⊎◌, inl, inr, ⊎_elim, ℕ, zero, suc, List, [], ◌∷◌, ◌++◌, take, length, get_or, add-one, refl, sym, ap, ◌∙◌, subst, arith, cond, ◌==◌, Some}
use Rattle.std.specs.Prelude.{Contains, slice_get}
use Rattle.std.proofs.lemmas.Option.{slice_get_within}
use Rattle.std.proofs.lemmas.List.Elements.{Contains-append_left, Contains-push_cases, Contains-push}
use Rattle.data_theory.specs.declared.ids.VarId.{VarId}
use Rattle.data_theory.specs.declared.ids.TermId.{TermId}
use Rattle.data_theory.specs.IdTrees.{Tree}
use Rattle.term_pool.specs.Bindings.{listed, listed_terms}
use Rattle.term_pool.specs.HeadTrees.{tree_at, trees_at}
use Rattle.bisim_laws.proofs.Firing.{contains_none}
use Rattle.lps_core.specs.PlainLinears.{PlainLinear}
use Rattle.lps_core.specs.TreeSummands.{bound_tree}
use Rattle.lps_constelm.specs.Putting.{pairs_of, StaysInitial, Changes, AreChanging}

-- ---- pairs
pub pairs_more : (xs : List VarId) (ids : List TermId) (i : ℕ) (x : VarId) (id : TermId) → i < length xs → length ids ≡ length xs → pairs_of (take (i + 1) xs) (take (i + 1) ids) ≡ pairs_of (take i xs) (take i ids) ++ (get_or xs i x, get_or ids i id) ∷ []
pairs_more xs ids i x id l e = ap (λ j. pairs_of (take j xs) (take j ids)) (add-one i) ∙ by_suc xs ids i l e
  where
    by_suc : (xs : List VarId) (ids : List TermId) (i : ℕ) → i < length xs → length ids ≡ length xs → pairs_of (take (suc i) xs) (take (suc i) ids) ≡ pairs_of (take i xs) (take i ids) ++ (get_or xs i x, get_or ids i id) ∷ []
    by_suc [] ids i l e = absurd (omega (arith, l))
    by_suc (y ∷ xs) [] i l e = absurd (omega (arith, e))
    by_suc (y ∷ xs) (u ∷ ids) zero l e = refl
    by_suc (y ∷ xs) (u ∷ ids) (suc i) l e = ap (λ z. (y, u) ∷ z) (by_suc xs ids i (omega (arith, l)) (omega (arith, e)))

pub pairs_terms : (xs : List VarId) (ids : List TermId) → length ids ≡ length xs → listed_terms (pairs_of xs ids) ≡ ids
pairs_terms [] [] e = refl
pairs_terms [] (id ∷ ids) e = absurd (omega (arith, e))
pairs_terms (x ∷ xs) [] e = absurd (omega (arith, e))
pairs_terms (x ∷ xs) (id ∷ ids) e = ap (λ z. id ∷ z) (pairs_terms xs ids (omega (arith, e)))

pub pairs_listed : (ts : List Tree) (xs : List VarId) (ids : List TermId) (v : VarId) → listed ts (pairs_of xs ids) v ≡ bound_tree xs (trees_at ts ids) v
pairs_listed ts [] ids v = refl
pairs_listed ts (x ∷ xs) [] v = refl
pairs_listed ts (x ∷ xs) (id ∷ ids) v = ap (λ z. cond (x.0 == v.0) (tree_at ts id) z) (pairs_listed ts xs ids v)

-- ---- the parameters at the first places
pub record AreChangingSoFar (ts : List Tree) (l : PlainLinear) (vars : List TermId) (i : ℕ) (start : List ℕ) : Type 0 where
  pub sound : (n : ℕ) → Contains start n → (place : ℕ) × (var : TermId) × (slice_get vars place ≡ Some var) × (var.0 ≡ n) × Changes ts l place
  pub others : (place : ℕ) (var : TermId) → place < i → slice_get vars place ≡ Some var → (Contains start var.0 → ⊥) → StaysInitial ts l place

pub none_changing : (ts : List Tree) (l : PlainLinear) (vars : List TermId) (start : List ℕ) → start ≡ [] → AreChangingSoFar ts l vars 0 start
none_changing ts l vars start e = record { sound = λ n i. absurd (contains_none n (subst (λ z. Contains z n) e i)); others = λ place var b e n. absurd (omega (arith, b)) }

before_or_now : (k i : ℕ) → k < i + 1 → (k < i) ⊎ (k ≡ i)
before_or_now zero zero l = inr refl
before_or_now zero (suc i) l = inl (omega arith)
before_or_now (suc k) zero l = absurd (omega (arith, l))
before_or_now (suc k) (suc i) l = ⊎_elim (λ h. inl (omega (arith, h))) (λ q. inr (ap suc q)) (before_or_now k i (omega (arith, l)))

same_id : {x y : TermId} → Some x ≡ Some y → x ≡ y
same_id e = cc

pub one_changes : (ts : List Tree) (l : PlainLinear) (vars : List TermId) (i : ℕ) (start now : List ℕ) (var : TermId) → AreChangingSoFar ts l vars i start → slice_get vars i ≡ Some var → Changes ts l i → now ≡ start ++ var.0 ∷ [] → AreChangingSoFar ts l vars (i + 1) now
one_changes ts l vars i start now var h e c q = subst (λ z. AreChangingSoFar ts l vars (i + 1) z) (sym q) (record {
  sound = λ n k. ⊎_elim (λ j. h.sound n j) (λ s. (i, var, e, s, c)) (Contains-push_cases start var.0 n k);
  others = λ place w b at no. ⊎_elim
      (λ m. h.others place w m at (λ k. no (Contains-append_left start (var.0 ∷ []) w.0 k)))
      (λ s. absurd (no (subst (λ (z : TermId). Contains (start ++ var.0 ∷ []) z.0) (same_id (sym e ∙ subst (λ k. slice_get vars k ≡ Some w) s at)) (Contains-push start var.0))))
      (before_or_now place i b);
})

pub one_stays : (ts : List Tree) (l : PlainLinear) (vars : List TermId) (i : ℕ) (start : List ℕ) → AreChangingSoFar ts l vars i start → StaysInitial ts l i → AreChangingSoFar ts l vars (i + 1) start
one_stays ts l vars i start h s = record {
  sound = h.sound;
  others = λ place w b at no. ⊎_elim (λ k. h.others place w k at no) (λ q. subst (λ k. StaysInitial ts l k) (sym q) s) (before_or_now place i b);
}

pub all_changing : (ts : List Tree) (l : PlainLinear) (vars : List TermId) (i : ℕ) (start : List ℕ) → AreChangingSoFar ts l vars i start → length vars ≤ i → AreChanging ts l vars start
all_changing ts l vars i start h n = record { sound = h.sound; others = λ place var e no. h.others place var (let w = slice_get_within vars place var e in omega (arith, w, n)) e no }
