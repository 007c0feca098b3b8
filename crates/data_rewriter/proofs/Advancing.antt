-- The moves of a place, and what they cost.
use Rattle.std.proofs.Common.{◌≡◌, ◌≢◌, ℕ, zero, suc, ◌+◌, ◌<◌, ◌≤◌, List, refl, sym, subst, arith, length, ◌-◌, ⊎_elim, inl, inr}
use Rattle.std.specs.Prelude.{Contains, Option, Some}
use Rattle.data_theory.specs.Terms.{Symbol, Term, Terms, none, more, application, apply}
use Rattle.data_theory.specs.Declarations.{Data}
use Rattle.data_theory.specs.Equations.{trueᵗ}
use Rattle.data_theory.specs.Provable.{Equation}
use Rattle.data_theory.specs.Rewriting.{lines, charge_of, Applies, a_line, an_equation, FirstDecides}
use Rattle.data_rewriter.specs.Charges.{Known, AreKnown, IsKnownCondition, ComesTo, by_a_known_first, by_known_arguments, none_is_left, passes_one, refuses_one, uses_one}
use Rattle.data_rewriter.specs.Paying.{Keeps, Advances}
use Rattle.data_rewriter.specs.Places.{Place, whole, from_equation}

-- what is known of arguments and conditions stays known
pub known_stay : (known later : Known) → Keeps known later → (ts us : Terms) → AreKnown known ts us → AreKnown later ts us
known_stay known later k none none h = h
known_stay known later k (more t ts) (more u us) h = (k (t, u) h.0, known_stay known later k ts us h.1)
known_stay known later k none (more u us) h = absurd h
known_stay known later k (more t ts) none h = absurd h

condition_stays : (known later : Known) → Keeps known later → (c d : Term) → IsKnownCondition known c d → IsKnownCondition later c d
condition_stays known later k c d h = ⊎_elim inl (λ b. inr (b.0, k (c, d) b.1)) h

-- the beginning of a condition of a built-in equation is free, and that of `true`
pub lines_are_free : {g : Data} {own : List Equation} {k : ℕ} {t c r : Term} {x : ℕ} → Applies g own k t c r x → k < lines → x ≡ 0
lines_are_free (a_line b at) less = refl
lines_are_free (an_equation i e at is l) less = absurd (omega (arith, is, less))

charge_of_true : (c : Term) → c ≡ trueᵗ → charge_of c ≡ 0
charge_of_true c e = subst (λ (x : Term). charge_of x ≡ 0) (sym e) refl

pub true_is_free : {g : Data} {own : List Equation} {k : ℕ} {t c r : Term} {x : ℕ} → Applies g own k t c r x → c ≡ trueᵗ → x ≡ 0
true_is_free (a_line b at) e = refl
true_is_free (an_equation i d at is l) e = charge_of_true _ e

module _ (g : Data) (own : List Equation) (known : Known) where
  paid_as : (known : Known) (p : Place) (o : Option Term) {n m : ℕ} → n ≡ m → ComesTo g own known p o n → ComesTo g own known p o m
  paid_as known p o e y = subst (ComesTo g own known p o) e y

  pub stands : (p : Place) → Advances g own known p p 0
  stands p = record { on = λ later k o m y. paid_as later p o (omega arith) y }

  pub then_advances : {p q r : Place} {n m : ℕ} → Advances g own known p q n → Advances g own known q r m → Advances g own known p r (n + m)
  then_advances {p = p} {n = n} {m = m} a b = record { on = λ later k o i y. paid_as later p o (omega arith) (a.on later k o (m + i) (b.on later k o i y)) }

  pub advances_as : {p q : Place} {n m : ℕ} → n ≡ m → Advances g own known p q n → Advances g own known p q m
  advances_as {p = p} {q = q} e a = subst (Advances g own known p q) e a

  pub advances_later : (later : Known) → Keeps known later → {p q : Place} {n : ℕ} → Advances g own known p q n → Advances g own later p q n
  advances_later later k a = record { on = λ last l o m y. a.on last (λ p c. l p (k p c)) o m y }

  -- what a place comes to from here on, where nothing more is known
  pub comes : {p q : Place} {n m : ℕ} (o : Option Term) → Advances g own known p q n → ComesTo g own known q o m → ComesTo g own known p o (n + m)
  comes {m = m} o a y = a.on known (λ p c. c) o m y

  -- all arguments are known, and no first one decides
  pub to_the_root : (f h : Symbol) (ts us ws : Terms) → AreKnown known ts us → (FirstDecides f us → ⊥) → apply f us ≡ application h ws → Advances g own known (whole (application f ts)) (from_equation 0 (application h ws)) 0
  to_the_root f h ts us ws a d e = record { on = λ later k o m y. paid_as later (whole (application f ts)) o (omega arith) (by_known_arguments us (known_stay known later k ts us a) d e y) }

  -- the first one decides
  pub to_the_root_at_once : (f : Symbol) (t b : Term) (ts : Terms) → Contains known (t, b) → FirstDecides f (more b ts) → Advances g own known (whole (application f (more t ts))) (from_equation 0 (application f (more b ts))) 0
  to_the_root_at_once f t b ts a d = record { on = λ later k o m y. paid_as later (whole (application f (more t ts))) o (omega arith) (by_a_known_first (k (t, b) a) d y) }

  -- the equation k doesn't apply
  passes : (k : ℕ) (t : Term) → k < lines + length own → ((c r : Term) (x : ℕ) → Applies g own k t c r x → ⊥) → Advances g own known (from_equation k t) (from_equation (suc k) t) 0
  passes k t l none_applies = record { on = λ later h o m y. paid_as later (from_equation k t) o (omega arith) (passes_one l none_applies y) }

  -- none of the next d equations does
  pub passes_all : (d k j : ℕ) (t : Term) → j ≡ k + d → j ≤ lines + length own → ((i : ℕ) (c r : Term) (x : ℕ) → k ≤ i → i < j → Applies g own i t c r x → ⊥) → Advances g own known (from_equation k t) (from_equation j t) 0
  passes_all zero k j t e l none_applies = let same : k ≡ j = omega (arith, e) in subst (λ x. Advances g own known (from_equation k t) (from_equation x t) 0) same (stands (from_equation k t))
  passes_all (suc d) k j t e l none_applies =
      let below : k < j = omega (arith, e) in
      let inside : k < lines + length own = omega (arith, e, l) in
      let first = passes k t inside (λ c r x a. none_applies k c r x (omega arith) below a) in
      let rest = passes_all d (suc k) j t (omega (arith, e)) l (λ i c r x up down a. none_applies i c r x (omega (arith, up)) down a) in
      advances_as (omega arith) (then_advances first rest)

  pub refuses : (k : ℕ) (t c r d : Term) (x : ℕ) → k < lines + length own → Applies g own k t c r x → IsKnownCondition known c d → d ≢ trueᵗ → Advances g own known (from_equation k t) (from_equation (suc k) t) x
  refuses k t c r d x l a h other = record { on = λ later s o m y. refuses_one d l a (condition_stays known later s c d h) other y }

  pub uses : (k : ℕ) (t c r : Term) (x : ℕ) → k < lines + length own → Applies g own k t c r x → IsKnownCondition known c trueᵗ → Advances g own known (from_equation k t) (whole r) (suc x)
  uses k t c r x l a h = record { on = λ later s o m y. paid_as later (from_equation k t) o (omega arith) (uses_one l a (condition_stays known later s c trueᵗ h) y) }

  -- none of the equations from k on applies
  pub ends : (k : ℕ) (t : Term) → k ≤ lines + length own → ((i : ℕ) (c r : Term) (x : ℕ) → k ≤ i → i < lines + length own → Applies g own i t c r x → ⊥) → ComesTo g own known (from_equation k t) (Some t) 0
  ends k t l none_applies =
      let all = passes_all (lines + length own - k) k (lines + length own) t (omega (arith, l)) (omega arith) none_applies in
      paid_as known (from_equation k t) (Some t) (omega arith) (comes (Some t) all (none_is_left refl))
