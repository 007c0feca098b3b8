-- Which parts are solvable, and the first of them.
use Rattle.std.proofs.Common.{◌≡◌, ℕ, Bool, true, false, List, [], ◌∷◌, refl, sym, ap, ◌∙◌, subst, cond, ◌⊎◌, inl, inr, ⊎_elim, Option, Some, None}
use Rattle.std.specs.Prelude.{Contains}
use Rattle.std.specs.List.{AllByRecursion}
use Rattle.std.proofs.lemmas.Bool.Decides.{eqb_tells}
use Rattle.data_theory.specs.Terms.{equality, Term, variable, application, none, more, variables_of}
use Rattle.data_theory.specs.Environments.{Binding}
use Rattle.data_theory.specs.Equations.{equals}
use Rattle.bisim_laws.proofs.Firing.{contains_none, contains_first, contains_later, contains_cases}
use Rattle.lps_sumelm.specs.Solutions.{Gives, on_the_left, on_the_right, IsSolvable, is_among, side, or_else, solution, IsFirst, it_is_first, it_is_later, NoneGives}
use Rattle.lps_sumelm.specs.SolvingLaws.{WhatIsGivenIsSolvable, WhatGivesNothingIsNotSolvable}

-- ---- tests
pub tests_differ : true ≡ false → ⊥
tests_differ e = cc

pub among_is : (v : ℕ) (xs : List ℕ) → is_among v xs ≡ true → Contains xs v
among_is v [] e = absurd (tests_differ (sym e))
among_is v (x ∷ xs) e = ⊎_elim
    (λ k. subst (λ z. Contains (x ∷ xs) z) k.1 (contains_first x xs))
    (λ k. contains_later x v xs (among_is v xs (sym (ap (λ b. cond b true (is_among v xs)) k.0) ∙ e)))
    (eqb_tells x v)

pub is_there : (v : ℕ) (xs : List ℕ) → Contains xs v → is_among v xs ≡ true
is_there v [] i = absurd (contains_none v i)
is_there v (x ∷ xs) i = ⊎_elim
    (λ k. ap (λ b. cond b true (is_among v xs)) k.0)
    (λ k. ap (λ b. cond b true (is_among v xs)) k.0 ∙ is_there v xs (⊎_elim (λ q. absurd (k.1 q)) (λ j. j) (contains_cases x v xs i)))
    (eqb_tells x v)

pub not_there : (v : ℕ) (xs : List ℕ) → is_among v xs ≡ false → Contains xs v → ⊥
not_there v xs e i = tests_differ (sym (is_there v xs i) ∙ e)

pub none_some : {b : Binding} → None ≡ Some b → ⊥
none_some e = cc

some_same : {b c : Binding} → Some b ≡ Some c → b ≡ c
some_same e = cc

-- ---- what a part gives
record IsSide (xs : List ℕ) (l r : Term) (b : Binding) : Type 0 where
  left : l ≡ variable b.var
  right : b.term ≡ r
  among : Contains xs b.var
  absent : Contains (variables_of b.term) b.var → ⊥

side_is : (xs : List ℕ) (l r : Term) (b : Binding) → side xs l r ≡ Some b → IsSide xs l r b
side_is xs (variable v) r b e = by_tests (is_among v xs) refl (is_among v (variables_of r)) refl e
  where
    by_tests : (p : Bool) → is_among v xs ≡ p → (q : Bool) → is_among v (variables_of r) ≡ q → cond p (cond q None (Some (record { var = v; term = r }))) None ≡ Some b → IsSide xs (variable v) r b
    by_tests false i q j e = absurd (none_some e)
    by_tests true i true j e = absurd (none_some e)
    by_tests true i false j e = subst (λ z. IsSide xs (variable v) r z) (some_same e) (record { left = refl; right = refl; among = among_is v xs i; absent = not_there v (variables_of r) j })
side_is xs _ r b e = absurd (none_some e)

either : (o q : Option Binding) (b : Binding) → or_else o q ≡ Some b → (o ≡ Some b) ⊎ (q ≡ Some b)
either (Some c) q b e = inl e
either None q b e = inr e

pub given_is_solvable : WhatIsGivenIsSolvable
given_is_solvable xs (application (equality s) (more l (more r none))) b e = ⊎_elim
    (λ h. let k = side_is xs l r b h in record { gives = subst (λ z. Gives (equals s z r) b.var b.term) (sym k.left) (subst (λ z. Gives (equals s (variable b.var) z) b.var b.term) k.right on_the_left); among = k.among; absent = k.absent })
    (λ h. let k = side_is xs r l b h in record { gives = subst (λ z. Gives (equals s l z) b.var b.term) (sym k.left) (subst (λ z. Gives (equals s z (variable b.var)) b.var b.term) k.right on_the_right); among = k.among; absent = k.absent })
    (either (side xs l r) (side xs r l) b e)
given_is_solvable xs _ b e = absurd (none_some e)

neither : (o q : Option Binding) → or_else o q ≡ None → (o ≡ None) × (q ≡ None)
neither (Some b) q e = absurd (some_none e)
  where
    some_none : {b : Binding} → Some b ≡ None → ⊥
    some_none e = cc
neither None q e = (refl, e)

abbrev what_is_given : ℕ → Term → Bool → Bool → Option Binding
what_is_given v t p q = cond p (cond q None (Some (record { var = v; term = t }))) None

no_side : (xs : List ℕ) (v : ℕ) (t : Term) → side xs (variable v) t ≡ None → Contains xs v → (Contains (variables_of t) v → ⊥) → ⊥
no_side xs v t e i n = by_test (is_among v (variables_of t)) refl (sym (ap (λ p. what_is_given v t p (is_among v (variables_of t))) (is_there v xs i)) ∙ e)
  where
    some_none : {b : Binding} → Some b ≡ None → ⊥
    some_none e = cc

    by_test : (b : Bool) → is_among v (variables_of t) ≡ b → what_is_given v t true (is_among v (variables_of t)) ≡ None → ⊥
    by_test true q h = n (among_is v (variables_of t) q)
    by_test false q h = some_none (sym (ap (λ b. what_is_given v t true b) q) ∙ h)

nothing_given : (xs : List ℕ) {p : Term} (v : ℕ) {t : Term} → Gives p v t → solution xs p ≡ None → Contains xs v → (Contains (variables_of t) v → ⊥) → ⊥
nothing_given xs v (on_the_left {t = t}) e i n = no_side xs v t (neither (side xs (variable v) t) (side xs t (variable v)) e).0 i n
nothing_given xs v (on_the_right {t = t}) e i n = no_side xs v t (neither (side xs t (variable v)) (side xs (variable v) t) e).1 i n

pub gives_nothing : WhatGivesNothingIsNotSolvable
gives_nothing xs p b e s = nothing_given xs b.var s.gives e s.among s.absent

-- ---- the first one
-- a list with one element more
pub data TakenOut (p : Term) : List Term → List Term → Type 0 where
  the_first : {cs : List Term} → TakenOut p cs (p ∷ cs)
  a_later : {c : Term} {rest cs : List Term} → TakenOut p rest cs → TakenOut p (c ∷ rest) (c ∷ cs)

pub record IsFound (xs : List ℕ) (cs : List Term) (b : Binding) (rest : List Term) : Type 0 where
  pub part : Term
  pub taken : TakenOut part rest cs
  pub solvable : IsSolvable xs part b

pub first_is_found : {xs : List ℕ} {cs : List Term} {b : Binding} {rest : List Term} → IsFirst xs cs b rest → IsFound xs cs b rest
first_is_found {xs} (it_is_first {c = c} {b = b} e) = record { part = c; taken = the_first; solvable = given_is_solvable xs c b e }
first_is_found (it_is_later e h) = let k = first_is_found h in record { part = k.part; taken = a_later k.taken; solvable = k.solvable }

pub none_is_solvable : (xs : List ℕ) (cs : List Term) → NoneGives xs cs → (p : Term) (b : Binding) → Contains cs p → IsSolvable xs p b → ⊥
none_is_solvable xs [] h p b i s = contains_none p i
none_is_solvable xs (c ∷ cs) h p b i s = ⊎_elim (λ q. gives_nothing xs p b (subst (λ z. solution xs z ≡ None) q h.0) s) (λ j. none_is_solvable xs cs h.1 p b j s) (contains_cases c p cs i)

-- ---- what holds of all
pub taken_apart : (P : Term → Type 0) {p : Term} {rest cs : List Term} → TakenOut p rest cs → AllByRecursion P cs → P p × AllByRecursion P rest
taken_apart P the_first h = h
taken_apart P (a_later k) h = let r = taken_apart P k h.1 in (r.0, (h.0, r.1))

pub put_together : (P : Term → Type 0) {p : Term} {rest cs : List Term} → TakenOut p rest cs → P p → AllByRecursion P rest → AllByRecursion P cs
put_together P the_first h k = (h, k)
put_together P (a_later t) h k = (k.0, put_together P t h k.1)
