-- The moves of a place.
use Rattle.std.proofs.Common.{◌≡◌, ◌≢◌, ℕ, zero, suc, ◌+◌, ◌<◌, ◌≤◌, List, refl, sym, subst, arith, length, ◌-◌}
use Rattle.std.specs.Prelude.{ℤ}
use Rattle.data_theory.specs.Terms.{Sort, Symbol, Term, Terms, numeral, application, more, apply}
use Rattle.data_theory.specs.Declarations.{Data}
use Rattle.data_theory.specs.Equations.{trueᵗ}
use Rattle.data_theory.specs.Provable.{Equation}
use Rattle.data_theory.specs.Rewriting.{lines, Applies, FirstDecides, GoesTo, by_the_first, by_all, ArgumentsGoTo, RootGoesTo, merged, tries, FromEquation, stays, passed, refused, used, ConditionGoesTo, at_the_root_by_the_first, at_the_root_by_all, is_passed, is_refused, is_used}
use Rattle.data_rewriter.specs.Places.{Place, whole, from_equation, Yields, Begins, Leads}

module _ (g : Data) (own : List Equation) where
  yields_as : (p : Place) (u : Term) {n m : ℕ} → n ≡ m → Yields g own p u n → Yields g own p u m
  yields_as p u e y = subst (Yields g own p u) e y

  begins_as : (p : Place) {n m : ℕ} → n ≡ m → Begins g own p n → Begins g own p m
  begins_as p e y = subst (Begins g own p) e y

  pub stands_still : (p : Place) → Leads g own p p 0
  stands_still p = record { goes = λ u m y. yields_as (p) _ (omega arith) y; chain = λ m y. begins_as (p) (omega arith) y }

  pub then_leads : {p q r : Place} {n m : ℕ} → Leads g own p q n → Leads g own q r m → Leads g own p r (n + m)
  then_leads {p = p} {r = r} {n = n} {m = m} a b = record {
    goes = λ u k y. yields_as (p) _ (omega arith) (a.goes u (m + k) (b.goes u k y));
    chain = λ k y. begins_as (p) (omega arith) (a.chain (m + k) (b.chain k y));
  }

  pub leads_as : {p q : Place} {n m : ℕ} → n ≡ m → Leads g own p q n → Leads g own p q m
  leads_as {p = p} {q = q} e l = subst (Leads g own p q) e l

  -- all arguments are done, and none_applies first one decides
  pub to_the_root : (f h : Symbol) (ts us ws : Terms) (n : ℕ) → ArgumentsGoTo g own ts us n → (FirstDecides f us → ⊥) → apply f us ≡ application h ws → Leads g own (whole (application f ts)) (from_equation 0 (application h ws)) n
  to_the_root f h ts us ws n a d e = record {
    goes = λ u m y. by_all a d (subst (λ x. RootGoesTo g own x u m) (sym e) (tries y));
    chain = λ m y. at_the_root_by_all a d e y;
  }

  -- the first one decides
  pub to_the_root_at_once : (f : Symbol) (t b : Term) (ts : Terms) (n : ℕ) → GoesTo g own t b n → FirstDecides f (more b ts) → Leads g own (whole (application f (more t ts))) (from_equation 0 (application f (more b ts))) n
  to_the_root_at_once f t b ts n a d = record {
    goes = λ u m y. by_the_first a d (tries y);
    chain = λ m y. at_the_root_by_the_first a d y;
  }

  -- the application became a numeral
  pub to_a_numeral : (f : Symbol) (ts us : Terms) (n : ℕ) (a : Sort) (z : ℤ) → ArgumentsGoTo g own ts us n → (FirstDecides f us → ⊥) → apply f us ≡ numeral a z → GoesTo g own (application f ts) (numeral a z) n
  to_a_numeral f ts us n a z p d e =
      let y : GoesTo g own (application f ts) (numeral a z) (n + 0) = by_all p d (subst (λ x. RootGoesTo g own x (numeral a z) 0) (sym e) merged) in
      yields_as (whole (application f ts)) _ (omega arith) y

  -- the equation k doesn't apply
  pub passes : (k : ℕ) (t : Term) → k < lines + length own → ((c r : Term) (x : ℕ) → Applies g own k t c r x → ⊥) → Leads g own (from_equation k t) (from_equation (suc k) t) 0
  passes k t l none_applies = record {
    goes = λ u m y. yields_as (from_equation k t) _ (omega arith) (passed l none_applies y);
    chain = λ m y. begins_as (from_equation k t) (omega arith) (is_passed none_applies y);
  }

  -- none of the next d equations does
  pub passes_all : (d k j : ℕ) (t : Term) → j ≡ k + d → j ≤ lines + length own → ((i : ℕ) (c r : Term) (x : ℕ) → k ≤ i → i < j → Applies g own i t c r x → ⊥) → Leads g own (from_equation k t) (from_equation j t) 0
  passes_all zero k j t e l none_applies = let same : k ≡ j = omega (arith, e) in subst (λ x. Leads g own (from_equation k t) (from_equation x t) 0) same (stands_still (from_equation k t))
  passes_all (suc d) k j t e l none_applies =
      let below : k < j = omega (arith, e) in
      let inside : k < lines + length own = omega (arith, e, l) in
      let first = passes k t inside (λ c r x a. none_applies k c r x (omega arith) below a) in
      let rest = passes_all d (suc k) j t (omega (arith, e)) l (λ i c r x up down a. none_applies i c r x (omega (arith, up)) down a) in
      leads_as (omega arith) (then_leads first rest)

  pub refuses : (k : ℕ) (t c r d : Term) (x n : ℕ) → k < lines + length own → Applies g own k t c r x → ConditionGoesTo g own c d n → d ≢ trueᵗ → Leads g own (from_equation k t) (from_equation (suc k) t) (x + n)
  refuses k t c r d x n l a p q = record { goes = λ u m y. refused l a p q y; chain = λ m y. is_refused a p q y }

  pub uses : (k : ℕ) (t c r d : Term) (x n : ℕ) → k < lines + length own → Applies g own k t c r x → ConditionGoesTo g own c d n → d ≡ trueᵗ → Leads g own (from_equation k t) (whole r) (suc (x + n))
  uses k t c r d x n l a p q = record {
    goes = λ u m y. yields_as (from_equation k t) _ (omega arith) (used l a p q y);
    chain = λ m y. begins_as (from_equation k t) (omega arith) (is_used a p q y);
  }

  -- none is left
  pub none_left : (t : Term) → FromEquation g own (lines + length own) t t 0
  none_left t = stays refl

  -- none of the equations from k on applies
  pub ends : (k : ℕ) (t : Term) → k ≤ lines + length own → ((i : ℕ) (c r : Term) (x : ℕ) → k ≤ i → i < lines + length own → Applies g own i t c r x → ⊥) → FromEquation g own k t t 0
  ends k t l none_applies =
      let all = passes_all (lines + length own - k) k (lines + length own) t (omega (arith, l)) (omega arith) none_applies in
      yields_as (from_equation k t) _ (omega arith) (all.goes t 0 (none_left t))
