-- A term goes to at most one term, in at most one number of uses.
use Rattle.std.proofs.Common.{◌≡◌, ℕ, suc, ◌+◌, List, [], ◌∷◌, refl, sym, ap, ◌∙◌, subst, arith, ⊎_elim}
use Rattle.std.specs.Prelude.{Option, Some, None, slice_get, Contains}
use Rattle.std.proofs.lemmas.Option.{slice_get_within, get_or_from_slice_get}
use Rattle.std.proofs.lemmas.List.Elements.{Contains-append_cases}
use Rattle.data_theory.specs.Terms.{Symbol, Term, Terms, variable, numeral, unknown, application, none, more, apply, put, variables_of, variables_of_all}
use Rattle.data_theory.specs.Declarations.{Data}
use Rattle.data_theory.specs.Provable.{Equation}
use Rattle.data_theory.specs.Environments.{Agree}
use Rattle.data_theory.specs.Rewriting.{laid, laid_all, charge_of, Applies, a_line, an_equation, LooksFirst, IsTruthValue, FirstDecides, GoesTo, a_variable, a_numeral, an_unknown, by_the_first, by_all, ArgumentsGoTo, no_arguments, an_argument, RootGoesTo, merged, tries, FromEquation, stays, passed, refused, used, ConditionGoesTo, without_condition, with_condition, IsCovered, GoesToOneTerm}
use Rattle.data_theory.proofs.OrderOfLines.{place_below, condition_at, right_at}
use Rattle.data_theory.proofs.EnvironmentLemmas.{agreeing_give_the_same_term, contains_nothing, contains_cases}

-- ---- a pattern laid over a term fixes what its variables stand for
root_parts : {f h : Symbol} {ts us : Terms} → application f ts ≡ application h us → ts ≡ us
root_parts {f} {h} {ts} {us} e = ap arguments_in e
  where
    arguments_in : Term → Terms
    arguments_in (application k ws) = ws
    arguments_in _ = none

first_part : {t u : Term} {ts us : Terms} → more t ts ≡ more u us → t ≡ u
first_part {t} e = ap (first_or t) e
  where
    first_or : Term → Terms → Term
    first_or d none = d
    first_or d (more x xs) = x

other_parts : {t u : Term} {ts us : Terms} → more t ts ≡ more u us → ts ≡ us
other_parts e = ap others e
  where
    others : Terms → Terms
    others none = none
    others (more x xs) = xs

only_variable : (v w : ℕ) → Contains (v ∷ []) w → v ≡ w
only_variable v w i = ⊎_elim (λ e. e) (λ n. absurd (contains_nothing w n)) (contains_cases v w [] i)

mutual
  laid_agree : (d e : ℕ → Term) (t : Term) → laid d t ≡ laid e t → Agree (variables_of t) d e
  laid_agree d e (variable v) q w i = subst (λ x. d x ≡ e x) (only_variable v w i) q
  laid_agree d e (numeral a z) q w i = absurd (contains_nothing w i)
  laid_agree d e (unknown a k) q w i = absurd (contains_nothing w i)
  laid_agree d e (application f ts) q w i = laid_all_agree d e ts (root_parts q) w i

  laid_all_agree : (d e : ℕ → Term) (ts : Terms) → laid_all d ts ≡ laid_all e ts → Agree (variables_of_all ts) d e
  laid_all_agree d e none q w i = absurd (contains_nothing w i)
  laid_all_agree d e (more t ts) q w i = ⊎_elim
      (λ j. laid_agree d e t (first_part q) w j)
      (λ j. laid_all_agree d e ts (other_parts q) w j)
      (Contains-append_cases (variables_of t) (variables_of_all ts) w i)

module _ (g : Data) (own : List Equation) (covered : (q : Equation) → Contains own q → IsCovered q) where
  -- two terms and two numbers that are the same
  pub record Same (u v : Term) (n m : ℕ) : Type 0 where
    pub term : u ≡ v
    pub uses : n ≡ m

  pub record SameAll (us vs : Terms) (n m : ℕ) : Type 0 where
    pub terms : us ≡ vs
    pub uses : n ≡ m

  pub record SameApplication (c d r s : Term) (x y : ℕ) : Type 0 where
    pub condition : c ≡ d
    pub right : r ≡ s
    pub charge : x ≡ y

  some_inside : {q p : Equation} → ◌≡◌ {A = Option Equation} (Some q) (Some p) → q ≡ p
  some_inside {q} e = ap (inside q) e
    where
      inside : Equation → Option Equation → Equation
      inside d None = d
      inside d (Some p) = p

  -- what is read at a place is an element
  read_contains : (qs : List Equation) (i : ℕ) (q : Equation) → slice_get qs i ≡ Some q → Contains qs q
  read_contains qs i q e = (i, slice_get_within qs i q e, get_or_from_slice_get qs i q q e)

  equations_same : {t : Term} {q p : Equation} (d e : ℕ → Term) → Contains own q → q ≡ p → laid d q.left ≡ t → laid e p.left ≡ t → SameApplication (put d q.condition) (put e p.condition) (put d q.right) (put e p.right) (charge_of (put d q.condition)) (charge_of (put e p.condition))
  equations_same {t} {q} d e i same a b =
      let b' : laid e q.left ≡ t = subst (λ (x : Equation). laid e x.left ≡ t) (sym same) b in
      let agree = laid_agree d e q.left (a ∙ sym b') in
      let is = covered q i in
      let c : put d q.condition ≡ put e q.condition = agreeing_give_the_same_term (variables_of q.left) d e agree q.condition is.condition in
      let r : put d q.right ≡ put e q.right = agreeing_give_the_same_term (variables_of q.left) d e agree q.right is.right in
      let c' = c ∙ ap (λ (x : Equation). put e x.condition) same in
      record { condition = c'; right = r ∙ ap (λ (x : Equation). put e x.right) same; charge = ap charge_of c' }

  pub applies_alike : {k : ℕ} {t c d r s : Term} {x y : ℕ} → Applies g own k t c r x → Applies g own k t d s y → SameApplication c d r s x y
  applies_alike {k} (a_line a e) (a_line b f) = record { condition = condition_at a b k e f; right = right_at a b k e f; charge = refl }
  applies_alike {k} (a_line a e) (an_equation i d p q h) = absurd (let l = place_below a k e in omega (arith, q, l))
  applies_alike {k} (an_equation i d p q h) (a_line a e) = absurd (let l = place_below a k e in omega (arith, q, l))
  applies_alike (an_equation {q = q} i d p k h) (an_equation {q = r} j e p' k' h') =
      let same_place : i ≡ j = omega (arith, k, k') in
      let same : q ≡ r = some_inside (sym p ∙ (ap (slice_get own) same_place ∙ p')) in
      equations_same d e (read_contains own i q p) same h h'

  pub decides_at : (f : Symbol) (b d : Term) (us ts : Terms) → b ≡ d → FirstDecides f (more b ts) → FirstDecides f (more d us)
  decides_at f b d us ts p e = subst (λ x. LooksFirst f × IsTruthValue x) p e

  mutual
    pub goes_alike : {t u v : Term} {n m : ℕ} → GoesTo g own t u n → GoesTo g own t v m → Same u v n m
    goes_alike a_variable a_variable = record { term = refl; uses = refl }
    goes_alike a_numeral a_numeral = record { term = refl; uses = refl }
    goes_alike an_unknown an_unknown = record { term = refl; uses = refl }
    goes_alike {v = v} (by_the_first {f = f} {b = b} {ts = ts} a _ r) (by_the_first {b = d} {m = m} h _ s) =
        let p = goes_alike a h in
        let s' : RootGoesTo g own (application f (more b ts)) v m = subst (λ x. RootGoesTo g own (application f (more x ts)) v m) (sym p.term) s in
        let q = root_alike r s' in
        record { term = q.term; uses = λ i. p.uses i + q.uses i }
    goes_alike (by_the_first {f = f} {b = b} {ts = ts} a e r) (by_all (an_argument {u = d} {us = us} h hs) n s) =
        absurd (n (decides_at f b d us ts (goes_alike a h).term e))
    goes_alike (by_all (an_argument {u = d} {us = us} h hs) n s) (by_the_first {f = f} {b = b} {ts = ts} a e r) =
        absurd (n (decides_at f b d us ts (sym (goes_alike h a).term) e))
    goes_alike {v = v} (by_all {f = f} {us = us} a _ r) (by_all {us = ws} {m = m} h _ s) =
        let p = arguments_alike a h in
        let s' : RootGoesTo g own (apply f us) v m = subst (λ x. RootGoesTo g own (apply f x) v m) (sym p.terms) s in
        let q = root_alike r s' in
        record { term = q.term; uses = λ i. p.uses i + q.uses i }

    pub arguments_alike : {ts us vs : Terms} {n m : ℕ} → ArgumentsGoTo g own ts us n → ArgumentsGoTo g own ts vs m → SameAll us vs n m
    arguments_alike no_arguments no_arguments = record { terms = refl; uses = refl }
    arguments_alike (an_argument a rest) (an_argument h hs) =
        let p = goes_alike a h in
        let q = arguments_alike rest hs in
        record { terms = λ i. more (p.term i) (q.terms i); uses = λ i. p.uses i + q.uses i }

    root_alike : {t u v : Term} {n m : ℕ} → RootGoesTo g own t u n → RootGoesTo g own t v m → Same u v n m
    root_alike merged merged = record { term = refl; uses = refl }
    root_alike (tries a) (tries h) = equations_alike a h

    pub condition_alike : {c d b : Term} {n m : ℕ} → ConditionGoesTo g own c d n → ConditionGoesTo g own c b m → Same d b n m
    condition_alike (without_condition _) (without_condition _) = record { term = refl; uses = refl }
    condition_alike (without_condition e) (with_condition n _) = absurd (n e)
    condition_alike (with_condition n _) (without_condition e) = absurd (n e)
    condition_alike (with_condition _ a) (with_condition _ h) = goes_alike a h

    equations_alike : {k : ℕ} {t u v : Term} {n m : ℕ} → FromEquation g own k t u n → FromEquation g own k t v m → Same u v n m
    equations_alike (stays _) (stays _) = record { term = refl; uses = refl }
    equations_alike (stays e) (passed l _ _) = absurd (omega (arith, e, l))
    equations_alike (stays e) (refused l _ _ _ _) = absurd (omega (arith, e, l))
    equations_alike (stays e) (used l _ _ _ _) = absurd (omega (arith, e, l))
    equations_alike (passed l _ _) (stays e) = absurd (omega (arith, e, l))
    equations_alike (passed l _ r) (passed _ _ s) = equations_alike r s
    equations_alike (passed l n _) (refused _ a _ _ _) = absurd (n _ _ _ a)
    equations_alike (passed l n _) (used _ a _ _ _) = absurd (n _ _ _ a)
    equations_alike (refused l _ _ _ _) (stays e) = absurd (omega (arith, e, l))
    equations_alike (refused l a _ _ _) (passed _ n _) = absurd (n _ _ _ a)
    equations_alike (refused {c = c} l a h d r) (refused {c = c'} {d = d'} {n = n} _ b i _ s) =
        let p = applies_alike a b in
        let q = condition_alike h (subst (λ x. ConditionGoesTo g own x d' n) (sym p.condition) i) in
        let o = equations_alike r s in
        record { term = o.term; uses = λ j. p.charge j + q.uses j + o.uses j }
    equations_alike (refused {c = c} l a h d r) (used {c = c'} {d = d'} {n = n} _ b i e _) =
        let p = applies_alike a b in
        let q = condition_alike h (subst (λ x. ConditionGoesTo g own x d' n) (sym p.condition) i) in
        absurd (d (q.term ∙ e))
    equations_alike (used l _ _ _ _) (stays e) = absurd (omega (arith, e, l))
    equations_alike (used l a _ _ _) (passed _ n _) = absurd (n _ _ _ a)
    equations_alike (used {c = c} l a h e r) (refused {c = c'} {d = d'} {n = n} _ b i d _) =
        let p = applies_alike a b in
        let q = condition_alike h (subst (λ x. ConditionGoesTo g own x d' n) (sym p.condition) i) in
        absurd (d (sym q.term ∙ e))
    equations_alike {v = v} (used {c = c} l a h _ r) (used {c = c'} {d = d'} {n = n} {m = m} _ b i _ s) =
        let p = applies_alike a b in
        let q = condition_alike h (subst (λ x. ConditionGoesTo g own x d' n) (sym p.condition) i) in
        let o = goes_alike r (subst (λ x. GoesTo g own x v m) (sym p.right) s) in
        record { term = o.term; uses = λ j. suc (p.charge j + q.uses j + o.uses j) }

pub goes_to_one_term : GoesToOneTerm
goes_to_one_term g own covered t u v n m a h = let p = goes_alike g own covered a h in (p.term, p.uses)
