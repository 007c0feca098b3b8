-- Where no equation is written, a condition that is refused costs nothing: only the second line of `.` has a condition, and it is refused
-- where the place isn't a numeral.
use Rattle.std.proofs.Common.{◌≡◌, ◌≢◌, ℕ, zero, suc, ◌≤◌, ◌<◌, ◌⊎◌, List, [], true, refl, sym, ap, ◌∙◌, subst, arith, ⊎_elim}
use Rattle.std.specs.Prelude.{Option, Some, None, ℤ, pos, negsuc, slice_get, Contains}
use Rattle.std.proofs.lemmas.Option.{slice_get_within}
use Rattle.std.proofs.lemmas.Bool.{lt-ltb}
use lib.Signed.{lt_z, ◌≤ℤ◌}
use Rattle.data_theory.specs.Terms.{Sort, natural, Symbol, comparison, less, element_at, Term, Terms, variable, numeral, unknown, application}
use Rattle.data_theory.specs.Declarations.{Data, HasSort}
use Rattle.data_theory.specs.Equations.{BuiltIn, two, trueᵗ, consᵗ, number, truth_of, compared, at_zero, at_later}
use Rattle.data_theory.specs.Provable.{Equation}
use Rattle.data_theory.specs.Rewriting.{place_of, Applies, a_line, an_equation, GoesTo, a_numeral, by_the_first, by_all, no_arguments, an_argument, tries, FromEquation, stays, passed, refused, used, ConditionGoesTo, without_condition, with_condition, IsCovered}
use Rattle.data_theory.proofs.GoesToOne.{goes_alike}
use Rattle.data_theory.proofs.Potentials.{IsDone, goes_to_itself, also_within}
use Rattle.data_theory.proofs.PotentialLines.{Ready}

some_inside : {k i : ℕ} → ◌≡◌ {A = Option ℕ} (Some k) (Some i) → k ≡ i
some_inside {k} e = ap (inside k) e
  where
    inside : ℕ → Option ℕ → ℕ
    inside d None = d
    inside d (Some n) = n

pub nothing_written : (q : Equation) → Contains [] q → IsCovered q
nothing_written q c = let l = c.1 in absurd (omega (arith, l))

module _ (g : Data) where
  pub no_equation : {q : Equation} (i : ℕ) → slice_get [] i ≡ Some q → ⊥
  no_equation {q} i e = let l = slice_get_within [] i q e in omega (arith, l)

  -- ---- where nothing applies, nothing is used
  pub nothing_used : {i n : ℕ} {t u : Term} → ((k : ℕ) (c r : Term) (x : ℕ) → Applies g [] k t c r x → ⊥) → FromEquation g [] i t u n → (u ≡ t) × (n ≡ 0)
  nothing_used nothing (stays e) = (refl, refl)
  nothing_used nothing (passed l a r) = nothing_used nothing r
  nothing_used nothing (refused l a c d r) = absurd (nothing _ _ _ _ a)
  nothing_used nothing (used l a c d r) = absurd (nothing _ _ _ _ a)

  nothing_at_true : (k : ℕ) (c r : Term) (x : ℕ) → Applies g [] k trueᵗ c r x → ⊥
  nothing_at_true k c r x (a_line b p) = elim b [ ]
  nothing_at_true k c r x (an_equation i e p q h) = no_equation i p

  true_stays_true : {u : Term} {n : ℕ} → GoesTo g [] trueᵗ u n → u ≡ trueᵗ
  true_stays_true (by_all no_arguments no_first (tries r)) = (nothing_used nothing_at_true r).0

  -- the condition `true` isn't refused
  pub true_is_not_refused : {d : Term} {n : ℕ} → ConditionGoesTo g [] trueᵗ d n → d ≢ trueᵗ → ⊥
  true_is_not_refused (without_condition e) differs = differs refl
  true_is_not_refused (with_condition other r) differs = other refl

  -- ---- 0 < y, with y done
  abbrev above_zero : Term → Term
  above_zero y = two (comparison less natural) (number 0) y

  line_of_numerals : {c r : Term} {z : ℤ} → BuiltIn g c (above_zero (numeral natural z)) r → (c ≡ trueᵗ) × (r ≡ truth_of (lt_z (pos 0) z))
  line_of_numerals compared = (refl, refl)

  nothing_over_variables : (v : ℕ) (k : ℕ) (c r : Term) (x : ℕ) → Applies g [] k (above_zero (variable v)) c r x → ⊥
  nothing_over_variables v k c r x (a_line b p) = elim b [ ]
  nothing_over_variables v k c r x (an_equation i e p q h) = no_equation i p

  nothing_over_unknown : (d j : ℕ) (k : ℕ) (c r : Term) (x : ℕ) → Applies g [] k (above_zero (unknown d j)) c r x → ⊥
  nothing_over_unknown d j k c r x (a_line b p) = elim b [ ]
  nothing_over_unknown d j k c r x (an_equation i e p q h) = no_equation i p

  nothing_over_applications : (f : Symbol) (ts : Terms) (k : ℕ) (c r : Term) (x : ℕ) → Applies g [] k (above_zero (application f ts)) c r x → ⊥
  nothing_over_applications f ts k c r x (a_line b p) = elim b [ ]
  nothing_over_applications f ts k c r x (an_equation i e p q h) = no_equation i p

  below_or_at : (i k : ℕ) → i ≤ k → (i < k) ⊎ (i ≡ k)
  below_or_at i k l = grind (arith, l)

  -- a numeral above zero is found to be so
  found_above : {i n : ℕ} {d : Term} (z : ℕ) → i ≤ 28 → FromEquation g [] i (above_zero (number (suc z))) d n → d ≡ trueᵗ
  found_above z l (stays e) = absurd (omega (arith, l, e))
  found_above {i} z l (passed k a r) = ⊎_elim
      (λ o. found_above z (omega (arith, o)) r)
      (λ e. absurd (subst (λ j. ((c r : Term) (x : ℕ) → Applies g [] j (above_zero (number (suc z))) c r x → ⊥)) e a _ _ _ (a_line compared refl)))
      (below_or_at i 28 l)
  found_above z l (refused {d = e} {n = m} k (a_line b p) h differs r) = let c = (line_of_numerals b).0 in absurd (true_is_not_refused (subst (λ x. ConditionGoesTo g [] x e m) c h) differs)
  found_above z l (refused k (an_equation i e p q h) c differs r) = absurd (no_equation i p)
  found_above {n = n} {d = d} z l (used {m = m} k (a_line b p) h e r) = true_stays_true (subst (λ x. GoesTo g [] x d m) ((line_of_numerals b).1 ∙ ap truth_of (above z)) r)
    where
      above : (z : ℕ) → lt_z (pos 0) (pos (suc z)) ≡ true
      above z = lt-ltb 0 (suc z) (omega arith)
  found_above z l (used k (an_equation i e p q h) c d r) = absurd (no_equation i p)

  free_at : (y : Term) (vs : List Sort) {i n : ℕ} {d : Term} → HasSort g vs y natural → (y ≡ number 0 → ⊥) → i ≤ 28 → FromEquation g [] i (above_zero y) d n → d ≢ trueᵗ → n ≡ 0
  free_at (variable v) vs h positive l r differs = (nothing_used (nothing_over_variables v) r).1
  free_at (unknown d j) vs h positive l r differs = (nothing_used (nothing_over_unknown d j) r).1
  free_at (application f ts) vs h positive l r differs = (nothing_used (nothing_over_applications f ts) r).1
  free_at (numeral a (pos zero)) vs h positive l r differs = absurd (positive (ap (λ s. numeral s (pos 0)) h.0))
  free_at (numeral a (pos (suc z))) vs {i} {n} {d} h positive l r differs = absurd (differs (found_above z l (subst (λ s. FromEquation g [] i (above_zero (numeral s (pos (suc z)))) d n) h.0 r)))
  free_at (numeral a (negsuc z)) vs h positive l r differs = absurd (let z : pos 0 ≤ℤ negsuc z = h.1.0 in z.le)

  is_free : {y d : Term} {n : ℕ} (vs : List Sort) → IsDone g y → HasSort g vs y natural → (y ≡ number 0 → ⊥) → GoesTo g [] (above_zero y) d n → d ≢ trueᵗ → n ≡ 0
  is_free vs done h positive (by_the_first a (looks, decided) r) differs = elim looks [ ]
  is_free {y} {d} vs done h positive (by_all {m = m} (an_argument a_numeral (an_argument {u = u} a no_arguments)) no_first (tries r)) differs =
      let same = goes_alike g [] nothing_written a (goes_to_itself done) in
      let uses = same.uses in
      let free = free_at y vs h positive (omega arith) (subst (λ x. FromEquation g [] 0 (above_zero x) d m) same.term r) differs in
      omega (arith, uses, free)

  -- ---- a refused condition at a root whose arguments are done: behind the first line of `.`, and free
  pub record Refusal (i n : ℕ) : Type 0 where
    pub place : i ≡ 47
    pub uses : n ≡ 0

  -- the first line of `.` lies ahead, if it applies
  abbrev pub IsAhead : ℕ → Term → Type 0
  IsAhead i t = (c r : Term) (x : ℕ) → Applies g [] 46 t c r x → i ≤ 46

  pub refusal : {c t r d : Term} {i n : ℕ} (vs : List Sort) (a : Sort) (bs : List ℕ) (k : ℕ) (b : BuiltIn g c t r) → place_of b ≡ Some i → ConditionGoesTo g [] c d n → d ≢ trueᵗ → HasSort g vs t a → Ready g t bs k → IsAhead i t → Refusal i n
  refusal vs a bs k (at_later {s = e} {x = x} {l = l} {n = y}) p (without_condition q) differs h ready ahead = absurd (not_true q)
    where
      not_true : above_zero y ≡ trueᵗ → ⊥
      not_true q = cc
  refusal vs a bs k (at_later {s = e} {x = x} {l = l} {n = y}) p (with_condition other goes) differs h (also_within dl ol (also_within dy oy w)) ahead =
      let place = some_inside p in
      let positive : y ≡ number 0 → ⊥ = λ z. let early = ahead _ _ _ (subst (λ v. Applies g [] 46 (two (element_at e) (consᵗ e x l) v) trueᵗ x 0) (sym z) (a_line at_zero refl)) in omega (arith, place, early) in
      record { place = sym place; uses = is_free vs dy h.1.1.0 positive goes differs }
  refusal vs a bs k b p c differs h ready ahead = absurd (true_is_not_refused c differs)
