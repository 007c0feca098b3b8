-- What a term goes to is normal, and a finished rewriting is a chain.
use Rattle.std.proofs.Common.{◌≡◌, ℕ, ◌+◌, ◌⊎◌, inl, inr, Bool, true, false, cond, refl, sym, ◌∙◌, subst, ⊎_elim, arith}
use Rattle.std.specs.Prelude.{ℤ, pos, List}
use lib.Signed.{lt_z}
use lib.IntN.{neg_ℤ}
use Rattle.data_theory.specs.Terms.{Sort, positive, natural, integer, Symbol, conjunction, disjunction, implication, conditional, minus, upcast, Term, Terms, numeral, application, none, more, apply}
use Rattle.data_theory.specs.Declarations.{Data}
use Rattle.data_theory.specs.Provable.{Equation}
use Rattle.data_theory.specs.Rewriting.{LooksFirst, if_looks, and_looks, or_looks, implies_looks, GoesTo, a_variable, a_numeral, an_unknown, by_the_first, by_all, ArgumentsGoTo, no_arguments, an_argument, RootGoesTo, merged, tries, FromEquation, stays, passed, refused, used, Chain, not_begun, in_arguments, at_the_root_by_the_first, at_the_root_by_all, ArgumentsChain, no_arguments_left, in_an_argument, EquationChain, not_tried, is_passed, is_refused, is_used, IsNormal, WhatItGoesToIsNormal, FinishedRewritingsAreChains}
use Rattle.data_theory.proofs.GoesToIsEqual.{looks_first_unmerged}

-- an application merges to a numeral, or not at all
abbrev pub MergesOrNot : Symbol → Terms → Type 0
MergesOrNot f ts = (apply f ts ≡ application f ts) ⊎ ((a : Sort) × (z : ℤ) × (apply f ts ≡ numeral a z))

minus_merges : (s : Sort) (z : ℤ) (b : Bool) → ((cond b (numeral integer (neg_ℤ z)) (application (minus s) (more (numeral s z) none))) ≡ application (minus s) (more (numeral s z) none)) ⊎ ((a : Sort) × (w : ℤ) × ((cond b (numeral integer (neg_ℤ z)) (application (minus s) (more (numeral s z) none))) ≡ numeral a w))
minus_merges s z true = inr (integer, neg_ℤ z, refl)
minus_merges s z false = inl refl

pub merges_or_not : (f : Symbol) (ts : Terms) → MergesOrNot f ts
merges_or_not (upcast positive natural) (more (numeral positive z) none) = inr (natural, z, refl)
merges_or_not (upcast natural integer) (more (numeral natural z) none) = inr (integer, z, refl)
merges_or_not (upcast positive integer) (more (numeral positive z) none) = inr (integer, z, refl)
merges_or_not (minus positive) (more (numeral positive z) none) = minus_merges positive z (lt_z (pos 0) z)
merges_or_not (minus natural) (more (numeral natural z) none) = minus_merges natural z (lt_z (pos 0) z)
merges_or_not (minus integer) (more (numeral integer z) none) = minus_merges integer z (lt_z (pos 0) z)
merges_or_not f ts = inl refl

pub looks_first_or_not : (f : Symbol) → LooksFirst f ⊎ (LooksFirst f → ⊥)
looks_first_or_not (conditional s) = inl if_looks
looks_first_or_not conjunction = inl and_looks
looks_first_or_not disjunction = inl or_looks
looks_first_or_not implication = inl implies_looks
looks_first_or_not f = inr (λ h. elim h [ ])

module _ (g : Data) (own : List Equation) where
  -- ---- normal
  normal_numeral : (u : Term) (a : Sort) (z : ℤ) → u ≡ numeral a z → IsNormal g own u
  normal_numeral u a z e = subst (IsNormal g own) (sym e) (0, a_numeral)

  mutual
    goes_normal : {t u : Term} {n : ℕ} → GoesTo g own t u n → IsNormal g own u
    goes_normal a_variable = (0, a_variable)
    goes_normal a_numeral = (0, a_numeral)
    goes_normal an_unknown = (0, an_unknown)
    goes_normal {u = u} (by_the_first {f = f} {b = b} {ts = ts} a d r) =
        let first = goes_normal a in
        ⊎_elim
        (λ s. subst (IsNormal g own) (sym s.2) (first.0 + s.0, by_the_first first.1 d s.1))
        (λ i. i)
        (root_ends r)
    goes_normal {u = u} (by_all {f = f} {us = us} a n r) =
        let arguments = arguments_normal a in
        ⊎_elim
        (λ s. ⊎_elim
        (λ e. subst (IsNormal g own) (sym (s.2 ∙ e)) (arguments.0 + s.0, by_all arguments.1 n (subst (λ x. RootGoesTo g own (apply f us) x s.0) e s.1)))
        (λ m. normal_numeral u m.0 m.1 (s.2 ∙ m.2))
        (merges_or_not f us))
        (λ i. i)
        (root_ends r)

    arguments_normal : {ts us : Terms} {n : ℕ} → ArgumentsGoTo g own ts us n → (k : ℕ) × ArgumentsGoTo g own us us k
    arguments_normal no_arguments = (0, no_arguments)
    arguments_normal (an_argument a rest) =
        let p = goes_normal a in
        let q = arguments_normal rest in
        (p.0 + q.0, an_argument p.1 q.1)

    root_ends : {t u : Term} {n : ℕ} → RootGoesTo g own t u n → ((k : ℕ) × RootGoesTo g own t t k × (u ≡ t)) ⊎ IsNormal g own u
    root_ends merged = inl (0, merged, refl)
    root_ends (tries r) = ⊎_elim (λ s. inl (s.0, tries s.1, s.2)) (λ i. inr i) (equation_ends r)

    equation_ends : {k : ℕ} {t u : Term} {n : ℕ} → FromEquation g own k t u n → ((m : ℕ) × FromEquation g own k t t m × (u ≡ t)) ⊎ IsNormal g own u
    equation_ends (stays p) = inl (0, stays p, refl)
    equation_ends (passed l n r) = ⊎_elim (λ s. inl (s.0, passed l n s.1, s.2)) (λ i. inr i) (equation_ends r)
    equation_ends (refused {x = x} {n = n} l a c d r) = ⊎_elim (λ s. inl (x + n + s.0, refused l a c d s.1, s.2)) (λ i. inr i) (equation_ends r)
    equation_ends (used l a c d r) = inr (goes_normal r)

  -- ---- chains
  abbrev RootChain : Term → ℕ → Type 0
  RootChain t m = ((a : Sort) × (z : ℤ) × (t ≡ numeral a z) × (m ≡ 0)) ⊎ ((h : Symbol) × (ws : Terms) × (t ≡ application h ws) × EquationChain g own 0 (application h ws) m)

  no_numeral : {f : Symbol} {ts : Terms} {a : Sort} {z : ℤ} → application f ts ≡ numeral a z → ⊥
  no_numeral e = cc

  finished_arguments : (f : Symbol) (ts us : Terms) (n m : ℕ) → m ≡ 0 → ArgumentsChain g own ts n → ((a : Sort) × (z : ℤ) × (apply f us ≡ numeral a z)) → Chain g own (application f ts) (n + m)
  finished_arguments f ts us n m e c merges =
      ⊎_elim
      (λ looks. absurd (no_numeral (sym (looks_first_unmerged f us looks) ∙ merges.2)))
      (λ no. let same : n ≡ n + m = omega (arith, e) in subst (Chain g own (application f ts)) same (in_arguments no c))
      (looks_first_or_not f)

  mutual
    goes_chain : {t u : Term} {n : ℕ} → GoesTo g own t u n → Chain g own t n
    goes_chain a_variable = not_begun
    goes_chain a_numeral = not_begun
    goes_chain an_unknown = not_begun
    goes_chain (by_the_first {f = f} {b = b} {ts = ts} {m = m} a d r) =
        ⊎_elim
        (λ s. absurd (no_numeral s.2))
        (λ s. at_the_root_by_the_first a d (subst (λ x. EquationChain g own 0 x m) (sym s.2) s.3))
        (root_chain r)
    goes_chain (by_all {f = f} {ts = ts} {us = us} {n = n} {m = m} a undecided r) =
        ⊎_elim
        (λ s. finished_arguments f ts us n m s.3 (arguments_chain a) (s.0, s.1, s.2))
        (λ s. at_the_root_by_all a undecided s.2 s.3)
        (root_chain r)

    arguments_chain : {ts us : Terms} {n : ℕ} → ArgumentsGoTo g own ts us n → ArgumentsChain g own ts n
    arguments_chain no_arguments = no_arguments_left
    arguments_chain (an_argument a rest) = in_an_argument (goes_chain a) (arguments_chain rest)

    root_chain : {t u : Term} {n : ℕ} → RootGoesTo g own t u n → RootChain t n
    root_chain (merged {a = a} {z = z}) = inl (a, z, refl, refl)
    root_chain (tries {f = f} {ts = ts} r) = inr (f, ts, refl, equation_chain r)

    equation_chain : {k : ℕ} {t u : Term} {n : ℕ} → FromEquation g own k t u n → EquationChain g own k t n
    equation_chain (stays p) = not_tried
    equation_chain (passed l n r) = is_passed n (equation_chain r)
    equation_chain (refused l a c d r) = is_refused a c d (equation_chain r)
    equation_chain (used l a c d r) = is_used a c d (goes_chain r)

pub what_it_goes_to_is_normal : WhatItGoesToIsNormal
what_it_goes_to_is_normal g own t u n r = goes_normal g own r

pub finished_rewritings_are_chains : FinishedRewritingsAreChains
finished_rewritings_are_chains g own t u n r = goes_chain g own r
