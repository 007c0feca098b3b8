-- A chain of `&&` goes to `false` where some parts in front go to `true`, and the next one to `false`.
use Rattle.std.proofs.Common.{◌≡◌, ◌<◌, ◌≤◌, ◌+◌, ◌⊎◌, inl, inr, ⊎_elim, ℕ, zero, suc, Bool, true, false, List, [], ◌∷◌, map, take, length, get_or, refl, sym, ap, ◌∙◌, subst, arith, add-one, Option, Some, None}
use Rattle.data_theory.specs.Terms.{conjunction, Term, application, none, more, put}
use Rattle.data_theory.specs.Declarations.{Data}
use Rattle.data_theory.specs.Equations.{BuiltIn, trueᵗ, falseᵗ, ◌∧ᵗ◌, true_and, and_true, false_and, and_false, and_same, and_commutes, and_associates, and_distributes, and_absorbs, and_not}
use Rattle.data_theory.specs.Provable.{Equation}
use Rattle.data_theory.specs.Rewriting.{lines, place_of, Applies, a_line, an_equation, and_looks, GoesTo, by_the_first, tries, FromEquation, passed, used, without_condition}
use Rattle.data_theory.proofs.NormalForms.{what_it_goes_to_is_normal}
use Rattle.process_terms.specs.Communication.{conjunction_of}
use Rattle.bisim_laws.specs.LinearProcesses.{is_true}
use Rattle.lps_core.proofs.Chains.{true_alone}
use Rattle.lps_simulator.specs.LeadingParts.{GoesToTrue, GoesToFalse, AllGoToTrue, FailInFront}

-- ---- which equations apply at `x && y`
data AndPlace (x y : Term) (i : ℕ) : Type 0 where
  where_the_first_is_true : i ≡ 3 → x ≡ trueᵗ → AndPlace x y i
  where_the_second_is_true : i ≡ 4 → y ≡ trueᵗ → AndPlace x y i
  behind_these : 5 ≤ i → AndPlace x y i

number_is : {k i : ℕ} → Some k ≡ Some i → k ≡ i
number_is e = cc

no_number : {i : ℕ} → None ≡ Some i → ⊥
no_number e = cc

at_least_five : {k i : ℕ} → 5 ≤ k → Some k ≡ Some i → 5 ≤ i
at_least_five {k} {i} l e = subst (λ n. 5 ≤ n) (number_is e) l

and_place : {g : Data} {x y c r : Term} (i : ℕ) (b : BuiltIn g c (x ∧ᵗ y) r) → place_of b ≡ Some i → AndPlace x y i
and_place i true_and e = where_the_first_is_true (sym (number_is e)) refl
and_place i and_true e = where_the_second_is_true (sym (number_is e)) refl
and_place i false_and e = behind_these (at_least_five (omega arith) e)
and_place i and_false e = behind_these (at_least_five (omega arith) e)
and_place i and_same e = behind_these (at_least_five (omega arith) e)
and_place i and_commutes e = absurd (no_number e)
and_place i and_associates e = absurd (no_number e)
and_place i and_distributes e = absurd (no_number e)
and_place i and_absorbs e = absurd (no_number e)
and_place i and_not e = absurd (no_number e)

applying_place : {g : Data} {own : List Equation} {x y c r : Term} (i n : ℕ) → Applies g own i (x ∧ᵗ y) c r n → AndPlace x y i
applying_place i n (a_line b p) = and_place i b p
applying_place i n (an_equation j e p q h) = behind_these (omega (arith, q))

true_false : trueᵗ ≡ falseᵗ → ⊥
true_false e = cc

true_or_not : (y : Term) → (y ≡ trueᵗ) ⊎ (y ≡ trueᵗ → ⊥)
true_or_not y = by_test (is_true y) refl
  where
    other : false ≡ true → ⊥
    other e = cc

    by_test : (b : Bool) → is_true y ≡ b → (y ≡ trueᵗ) ⊎ (y ≡ trueᵗ → ⊥)
    by_test true e = inl (true_alone y e)
    by_test false e = inr (λ q. other (sym e ∙ ap is_true q))

module _ (g : Data) (own : List Equation) where
  -- from the number k on to the one that is used
  reaches : (t u : Term) (p n : ℕ) → p < lines → ((i : ℕ) → i < p → (c r : Term) (x : ℕ) → Applies g own i t c r x → ⊥) → FromEquation g own p t u n → (left k : ℕ) → k + left ≡ p → FromEquation g own k t u n
  reaches t u p n l nothing f zero k e = let q : p ≡ k = omega (arith, e) in subst (λ i. FromEquation g own i t u n) q f
  reaches t u p n l nothing f (suc left) k e = passed (omega (arith, e, l)) (nothing k (omega (arith, e))) (reaches t u p n l nothing f left (suc k) (omega (arith, e)))

  from_the_first : (t u : Term) (p n : ℕ) → p < lines → ((i : ℕ) → i < p → (c r : Term) (x : ℕ) → Applies g own i t c r x → ⊥) → FromEquation g own p t u n → FromEquation g own 0 t u n
  from_the_first t u p n l nothing f = reaches t u p n l nothing f p 0 (omega arith)

  -- ---- `true && y` and `false && y`
  true_before : (y c r : Term) (i x : ℕ) → i < 3 → Applies g own i (trueᵗ ∧ᵗ y) c r x → ⊥
  true_before y c r i x l a = by_place (applying_place i x a)
    where
      by_place : AndPlace trueᵗ y i → ⊥
      by_place (where_the_first_is_true e q) = absurd (omega (arith, e, l))
      by_place (where_the_second_is_true e q) = absurd (omega (arith, e, l))
      by_place (behind_these e) = absurd (omega (arith, e, l))

  true_then : (y u : Term) (n : ℕ) → GoesTo g own y u n → FromEquation g own 0 (trueᵗ ∧ᵗ y) u (suc (0 + 0 + n))
  true_then y u n h = from_the_first (trueᵗ ∧ᵗ y) u 3 (suc (0 + 0 + n)) (omega arith) (λ i l c r x a. true_before y c r i x l a) (used (omega arith) (a_line true_and refl) (without_condition refl) refl h)

  false_before : (y c r : Term) (i x : ℕ) → (y ≡ trueᵗ → ⊥) → i < 5 → Applies g own i (falseᵗ ∧ᵗ y) c r x → ⊥
  false_before y c r i x other l a = by_place (applying_place i x a)
    where
      by_place : AndPlace falseᵗ y i → ⊥
      by_place (where_the_first_is_true e q) = true_false (sym q)
      by_place (where_the_second_is_true e q) = other q
      by_place (behind_these e) = absurd (omega (arith, e, l))

  false_before_true : (c r : Term) (i x : ℕ) → i < 4 → Applies g own i (falseᵗ ∧ᵗ trueᵗ) c r x → ⊥
  false_before_true c r i x l a = by_place (applying_place i x a)
    where
      by_place : AndPlace falseᵗ trueᵗ i → ⊥
      by_place (where_the_first_is_true e q) = true_false (sym q)
      by_place (where_the_second_is_true e q) = absurd (omega (arith, e, l))
      by_place (behind_these e) = absurd (omega (arith, e, l))

  false_then : (y : Term) (n : ℕ) → GoesTo g own falseᵗ falseᵗ n → FromEquation g own 0 (falseᵗ ∧ᵗ y) falseᵗ (suc (0 + 0 + n))
  false_then y n h = ⊎_elim
      (λ e. subst (λ z. FromEquation g own 0 (falseᵗ ∧ᵗ z) falseᵗ (suc (0 + 0 + n))) (sym e)
      (from_the_first (falseᵗ ∧ᵗ trueᵗ) falseᵗ 4 (suc (0 + 0 + n)) (omega arith) (λ i l c r x a. false_before_true c r i x l a) (used (omega arith) (a_line and_true refl) (without_condition refl) refl h)))
      (λ other. from_the_first (falseᵗ ∧ᵗ y) falseᵗ 5 (suc (0 + 0 + n)) (omega arith) (λ i l c r x a. false_before y c r i x other l a) (used (omega arith) (a_line false_and refl) (without_condition refl) refl h))
      (true_or_not y)

  -- ---- `x && y` whose first side is decided
  pub false_in_front : (x y : Term) → GoesToFalse g own x → GoesToFalse g own (x ∧ᵗ y)
  false_in_front x y (n, h) =
      let rest = what_it_goes_to_is_normal g own x falseᵗ n h in
      (n + suc (0 + 0 + rest.0), by_the_first h (and_looks, inr refl) (tries (false_then y rest.0 rest.1)))

  pub true_in_front : (x y u : Term) (n : ℕ) → GoesToTrue g own x → GoesTo g own y u n → (m : ℕ) × GoesTo g own (x ∧ᵗ y) u m
  true_in_front x y u n (k, h) later = (k + suc (0 + 0 + n), by_the_first h (and_looks, inl refl) (tries (true_then y u n later)))

  -- ---- chains
  pub chain_fails : (ts : List Term) → FailInFront g own ts → GoesToFalse g own (conjunction_of ts)
  chain_fails [] h = absurd h
  chain_fails (t ∷ []) (inl h) = h
  chain_fails (t ∷ []) (inr h) = absurd h.1
  chain_fails (t ∷ u ∷ us) (inl h) = false_in_front t (conjunction_of (u ∷ us)) h
  chain_fails (t ∷ u ∷ us) (inr h) = let rest = chain_fails (u ∷ us) h.1 in true_in_front t (conjunction_of (u ∷ us)) falseᵗ rest.0 h.0 rest.1

  -- ---- one part after another
  module _ {A : Type 0} (f : A → Term) where
    true_next : (xs : List A) (i : ℕ) (d : A) → i < length xs → AllGoToTrue g own (map f (take i xs)) → GoesToTrue g own (f (get_or xs i d)) → AllGoToTrue g own (map f (take (suc i) xs))
    true_next [] i d l h k = absurd (omega (arith, l))
    true_next (x ∷ xs) zero d l h k = (k, tt)
    true_next (x ∷ xs) (suc i) d l h k = (h.0, true_next xs i d (omega (arith, l)) h.1 k)

    fails_next : (xs : List A) (i : ℕ) (d : A) → i < length xs → AllGoToTrue g own (map f (take i xs)) → GoesToFalse g own (f (get_or xs i d)) → FailInFront g own (map f (take (suc i) xs))
    fails_next [] i d l h k = absurd (omega (arith, l))
    fails_next (x ∷ xs) zero d l h k = inl k
    fails_next (x ∷ xs) (suc i) d l h k = inr (h.0, fails_next xs i d (omega (arith, l)) h.1 k)

    pub true_more : (xs : List A) (i : ℕ) (d : A) → i < length xs → AllGoToTrue g own (map f (take i xs)) → GoesToTrue g own (f (get_or xs i d)) → AllGoToTrue g own (map f (take (i + 1) xs))
    true_more xs i d l h k = subst (λ n. AllGoToTrue g own (map f (take n xs))) (sym (add-one i)) (true_next xs i d l h k)

    pub fails_at : (xs : List A) (i : ℕ) (d : A) → i < length xs → AllGoToTrue g own (map f (take i xs)) → GoesToFalse g own (f (get_or xs i d)) → FailInFront g own (map f (take (i + 1) xs))
    fails_at xs i d l h k = subst (λ n. FailInFront g own (map f (take n xs))) (sym (add-one i)) (fails_next xs i d l h k)

    pub fails_before : (xs : List A) (i : ℕ) → FailInFront g own (map f (take i xs)) → FailInFront g own (map f xs)
    fails_before xs zero h = absurd h
    fails_before [] (suc i) h = absurd h
    fails_before (x ∷ xs) (suc i) (inl h) = inl h
    fails_before (x ∷ xs) (suc i) (inr h) = inr (h.0, fails_before xs i h.1)

-- ---- terms that are put in
pub put_chain : (e : ℕ → Term) (ts : List Term) → put e (conjunction_of ts) ≡ conjunction_of (map (put e) ts)
put_chain e [] = refl
put_chain e (t ∷ []) = refl
put_chain e (t ∷ u ∷ us) = ap (λ z. put e t ∧ᵗ z) (put_chain e (u ∷ us))
