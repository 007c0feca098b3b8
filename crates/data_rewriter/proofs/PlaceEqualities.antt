-- The equalities of two lists of arguments, from the last one on.
use Rattle.std.proofs.Common.{◌≡◌, ◌⊎◌, ℕ, zero, suc, ◌<◌, ◌≤◌, drop, get_or, List, [], ◌∷◌, length, refl, sym, ap, subst, arith, inl, inr, ⊎_elim}
use Rattle.std.specs.List.{All}
use Rattle.std.proofs.lemmas.List.Elements.{All-head, All-tail}
use Rattle.data_theory.specs.declared.ids.TermId.{TermId}
use Rattle.data_theory.specs.declared.ids.FunId.{FunId}
use Rattle.data_theory.specs.Terms.{Sort, boolean, Symbol, equality, Term, apply, more, none}
use Rattle.data_theory.specs.Equations.{trueᵗ, ◌∧ᵗ◌, equals, all_equal}
use Rattle.data_theory.specs.Signature.{Sig}
use Rattle.data_theory.specs.IdTrees.{Tree}
use Rattle.term_pool.specs.Pools.{Extends}
use Rattle.data_rewriter.proofs.Standings.{stands_still_for}
use Rattle.data_rewriter.specs.Standing.{IsTerm, StandsFor, IsSymbolOf, listed_at, terms_of}
use Rattle.data_rewriter.specs.Signatures.{AreEqualities, equal_from}

pub nothing_left : (k : ℕ) (ss : List Sort) (us vs : List Term) → (length ss ≤ k) ⊎ ((length us ≤ k) ⊎ (length vs ≤ k)) → equal_from k ss us vs ≡ trueᵗ
nothing_left zero [] us vs h = refl
nothing_left zero (s ∷ ss) [] vs h = none_left s ss
  where
    none_left : (s : Sort) (ss : List Sort) → all_equal (s ∷ ss) (terms_of []) (terms_of vs) ≡ trueᵗ
    none_left s [] = refl
    none_left s (r ∷ ss) = refl
nothing_left zero (s ∷ ss) (u ∷ us) [] h = none_right s ss us
  where
    none_right : (s : Sort) (ss : List Sort) (us : List Term) → all_equal (s ∷ ss) (terms_of (u ∷ us)) (terms_of []) ≡ trueᵗ
    none_right s [] [] = refl
    none_right s [] (w ∷ us) = refl
    none_right s (r ∷ ss) us = refl
nothing_left zero (s ∷ ss) (u ∷ us) (v ∷ vs) (inl h) = absurd (omega (arith, h))
nothing_left zero (s ∷ ss) (u ∷ us) (v ∷ vs) (inr (inl h)) = absurd (omega (arith, h))
nothing_left zero (s ∷ ss) (u ∷ us) (v ∷ vs) (inr (inr h)) = absurd (omega (arith, h))
nothing_left (suc k) [] us vs h = refl
nothing_left (suc k) (s ∷ ss) [] vs h = no_terms (drop k ss) (drop (suc k) vs)
  where
    no_terms : (ss : List Sort) (vs : List Term) → all_equal ss (terms_of []) (terms_of vs) ≡ trueᵗ
    no_terms [] vs = refl
    no_terms (s ∷ []) vs = refl
    no_terms (s ∷ r ∷ ss) vs = refl
nothing_left (suc k) (s ∷ ss) (u ∷ us) [] h = no_others (drop k ss) (drop k us)
  where
    no_others : (ss : List Sort) (us : List Term) → all_equal ss (terms_of us) (terms_of []) ≡ trueᵗ
    no_others [] us = refl
    no_others (s ∷ []) [] = refl
    no_others (s ∷ []) (u ∷ []) = refl
    no_others (s ∷ []) (u ∷ w ∷ us) = refl
    no_others (s ∷ r ∷ ss) [] = refl
    no_others (s ∷ r ∷ ss) (u ∷ us) = refl
nothing_left (suc k) (s ∷ ss) (u ∷ us) (v ∷ vs) (inl h) = nothing_left k ss us vs (inl (omega (arith, h)))
nothing_left (suc k) (s ∷ ss) (u ∷ us) (v ∷ vs) (inr (inl h)) = nothing_left k ss us vs (inr (inl (omega (arith, h))))
nothing_left (suc k) (s ∷ ss) (u ∷ us) (v ∷ vs) (inr (inr h)) = nothing_left k ss us vs (inr (inr (omega (arith, h))))

module _ (a : Sort) (t u : Term) where
  pub last_one : (k : ℕ) (ss : List Sort) (us vs : List Term) → length ss ≡ suc k → length us ≡ suc k → length vs ≡ suc k → equal_from k ss us vs ≡ equals (get_or ss k a) (get_or us k t) (get_or vs k u)
  last_one k [] us vs l m n = absurd (omega (arith, l))
  last_one k (s ∷ ss) [] vs l m n = absurd (omega (arith, m))
  last_one k (s ∷ ss) (x ∷ us) [] l m n = absurd (omega (arith, n))
  last_one (suc k) (s ∷ ss) (x ∷ us) (y ∷ vs) l m n = last_one k ss us vs (omega (arith, l)) (omega (arith, m)) (omega (arith, n))
  last_one zero (s ∷ []) (x ∷ []) (y ∷ []) l m n = refl
  last_one zero (s ∷ r ∷ ss) (x ∷ us) (y ∷ vs) l m n = absurd (omega (arith, l))
  last_one zero (s ∷ []) (x ∷ z ∷ us) (y ∷ vs) l m n = absurd (omega (arith, m))
  last_one zero (s ∷ []) (x ∷ []) (y ∷ w ∷ vs) l m n = absurd (omega (arith, n))

  pub one_more : (k : ℕ) (ss : List Sort) (us vs : List Term) → k < length ss → k < length us → k < length vs → (length ss ≡ suc k → length us ≡ suc k → length vs ≡ suc k → ⊥) → equal_from k ss us vs ≡ equals (get_or ss k a) (get_or us k t) (get_or vs k u) ∧ᵗ equal_from (suc k) ss us vs
  one_more k [] us vs l m n other = absurd (omega (arith, l))
  one_more k (s ∷ ss) [] vs l m n other = absurd (omega (arith, m))
  one_more k (s ∷ ss) (x ∷ us) [] l m n other = absurd (omega (arith, n))
  one_more (suc k) (s ∷ ss) (x ∷ us) (y ∷ vs) l m n other = one_more k ss us vs (omega (arith, l)) (omega (arith, m)) (omega (arith, n)) (λ a b d. other (ap suc a) (ap suc b) (ap suc d))
  one_more zero (s ∷ []) (x ∷ []) (y ∷ []) l m n other = absurd (other refl refl refl)
  one_more zero (s ∷ []) (x ∷ []) (y ∷ w ∷ vs) l m n other = refl
  one_more zero (s ∷ []) (x ∷ z ∷ us) (y ∷ vs) l m n other = refl
  one_more zero (s ∷ r ∷ ss) (x ∷ us) (y ∷ vs) l m n other = refl

module _ (sig : Sig) where
  pub equality_at : (d : FunId) (a : Sort) (k : ℕ) (fs : List FunId) (ss : List Sort) → AreEqualities sig fs ss → k < length fs → IsSymbolOf sig (get_or fs k d) (equality (get_or ss k a))
  equality_at d a k [] ss h l = absurd (omega (arith, l))
  equality_at d a k (f ∷ fs) [] h l = absurd h
  equality_at d a zero (f ∷ fs) (s ∷ ss) h l = h.0
  equality_at d a (suc k) (f ∷ fs) (s ∷ ss) h l = equality_at d a k fs ss h.1 (omega (arith, l))

  pub as_many : (fs : List FunId) (ss : List Sort) → AreEqualities sig fs ss → length fs ≡ length ss
  as_many [] [] h = refl
  as_many [] (s ∷ ss) h = absurd h
  as_many (f ∷ fs) [] h = absurd h
  as_many (f ∷ fs) (s ∷ ss) h = ap suc (as_many fs ss h.1)

  pub at_listed : (ts : List Tree) (d : TermId) (t : Term) (k : ℕ) (ids : List TermId) → k < length ids → All (IsTerm sig ts) ids → StandsFor sig ts (get_or ids k d) (get_or (listed_at sig ts ids) k t)
  at_listed ts d t k [] l h = absurd (omega (arith, l))
  at_listed ts d t zero (x ∷ ids) l h = record { term = All-head (IsTerm sig ts) x ids h; is = refl }
  at_listed ts d t (suc k) (x ∷ ids) l h = at_listed ts d t k ids (omega (arith, l)) (All-tail (IsTerm sig ts) x ids h)

  pub listed_length : (ts : List Tree) (ids : List TermId) → length (listed_at sig ts ids) ≡ length ids
  listed_length ts [] = refl
  listed_length ts (x ∷ ids) = ap suc (listed_length ts ids)

module _ (sig : Sig) (old : List Tree) (fs : List FunId) (xs ys : List TermId) (ss : List Sort) (eq : AreEqualities sig fs ss) where
  pub starts : (count k : ℕ) → k ≡ count → (length fs ≤ count) ⊎ ((length xs ≤ count) ⊎ (length ys ≤ count)) → equal_from k ss (listed_at sig old xs) (listed_at sig old ys) ≡ trueᵗ
  starts count k e h =
      let a = as_many sig fs ss eq in
      let b = listed_length sig old xs in
      let d = listed_length sig old ys in
      nothing_left k ss (listed_at sig old xs) (listed_at sig old ys) (⊎_elim (λ l. inl (omega (arith, l, a, e))) (⊎_elim (λ l. inr (inl (omega (arith, l, b, e)))) (λ l. inr (inr (omega (arith, l, d, e))))) h)

  module _ (all_xs : All (IsTerm sig old) xs) (all_ys : All (IsTerm sig old) ys) (mid new : List Tree) (kept : Extends old mid) (i : ℕ) (l : i < length fs) (m : i < length xs) (n : i < length ys) (z : FunId) (y : TermId) (here : TermId)
      (made : (w : Symbol) (t u : Term) → IsSymbolOf sig (get_or fs i z) w → StandsFor sig mid (get_or xs i y) t → StandsFor sig mid (get_or ys i y) u → StandsFor sig new here (apply w (more t (more u none)))) where
    pub here_stands : StandsFor sig new here (equals (get_or ss i boolean) (get_or (listed_at sig old xs) i trueᵗ) (get_or (listed_at sig old ys) i trueᵗ))
    here_stands = made (equality (get_or ss i boolean)) (get_or (listed_at sig old xs) i trueᵗ) (get_or (listed_at sig old ys) i trueᵗ) (equality_at sig z boolean i fs ss eq l)
        (stands_still_for sig old mid kept (get_or xs i y) _ (at_listed sig old y trueᵗ i xs m all_xs)) (stands_still_for sig old mid kept (get_or ys i y) _ (at_listed sig old y trueᵗ i ys n all_ys))

    pub last_stands : (k : ℕ) → k ≡ i → length fs ≡ suc i → length xs ≡ suc i → length ys ≡ suc i → StandsFor sig new here (equal_from k ss (listed_at sig old xs) (listed_at sig old ys))
    last_stands k e a b d =
        let c = as_many sig fs ss eq in
        let p = listed_length sig old xs in
        let q = listed_length sig old ys in
        subst (λ j. StandsFor sig new here (equal_from j ss (listed_at sig old xs) (listed_at sig old ys))) (sym e)
        (subst (StandsFor sig new here) (sym (last_one boolean trueᵗ trueᵗ i ss (listed_at sig old xs) (listed_at sig old ys) (omega (arith, a, c)) (omega (arith, b, p)) (omega (arith, d, q)))) here_stands)

    pub more_stands : (later : List Tree) (all : TermId) (k next : ℕ) → k ≡ i → next ≡ suc i → (length fs ≡ suc i → length xs ≡ suc i → length ys ≡ suc i → ⊥) → StandsFor sig later all (equals (get_or ss i boolean) (get_or (listed_at sig old xs) i trueᵗ) (get_or (listed_at sig old ys) i trueᵗ) ∧ᵗ equal_from next ss (listed_at sig old xs) (listed_at sig old ys)) → StandsFor sig later all (equal_from k ss (listed_at sig old xs) (listed_at sig old ys))
    more_stands later all k next e f other h =
        let c = as_many sig fs ss eq in
        let p = listed_length sig old xs in
        let q = listed_length sig old ys in
        let h' = subst (λ j. StandsFor sig later all (equals (get_or ss i boolean) (get_or (listed_at sig old xs) i trueᵗ) (get_or (listed_at sig old ys) i trueᵗ) ∧ᵗ equal_from j ss (listed_at sig old xs) (listed_at sig old ys))) f h in
        subst (λ j. StandsFor sig later all (equal_from j ss (listed_at sig old xs) (listed_at sig old ys))) (sym e)
        (subst (StandsFor sig later all) (sym (one_more boolean trueᵗ trueᵗ i ss (listed_at sig old xs) (listed_at sig old ys) (omega (arith, l, c)) (omega (arith, m, p)) (omega (arith, n, q)) (λ x y z. other (omega (arith, x, c)) (omega (arith, y, p)) (omega (arith, z, q))))) h')
