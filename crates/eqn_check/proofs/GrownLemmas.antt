-- Accepted equations in data that grow.
use Rattle.std.proofs.Common.{◌≡◌, ◌≢◌, ℕ, zero, suc, ◌<◌, ◌≤◌, ◌+◌, ◌⊎◌, true, false, inl, inr, ⊎_elim, List, [], ◌∷◌, ◌++◌, length, refl, sym, ap, ◌∙◌, subst, arith}
use Rattle.std.specs.Prelude.{Contains, slice_get, Some}
use Rattle.std.proofs.lemmas.List.Elements.{Contains-append_cases}
use Rattle.data_theory.specs.Terms.{Sort, boolean, list, Symbol, truth, falsity, empty, cons, function, Term, Terms, variable, numeral, unknown, application, none, more, variables_of}
use lib.Dec.{leb}
use lib.ListN.{get_or-eq_default}
use Rattle.std.proofs.lemmas.Bool.Decides.{leb_tells}
use Rattle.data_theory.specs.Declarations.{Data, DeclaredFunction, constructor, mapping, function_at, argument_sorts, IsSort, IsSymbol, HasSort, HaveSorts, IsData}
use Rattle.data_theory.specs.Environments.{AreDistinct, IsOver}
use Rattle.data_theory.specs.Equations.{term_at}
use Rattle.data_theory.specs.EqualityLaws.{Grows}
use Rattle.data_theory.specs.Provable.{Equation}
use Rattle.data_theory.specs.Rewriting.{IsNoVariable, IsWellFormed}
use Rattle.data_theory.proofs.GrowthLemmas.{function_in_grown, has_sort_in_grown}
use Rattle.eqn_check.specs.Patterns.{IsConstructor, IsPattern, ArePatterns, IsOf, IsLeftSide, arguments_of, StandsUnder, StandsUnderOne}
use Rattle.eqn_check.specs.Calls.{Calls, EquationCalls, FunctionCalls, Reaches, at_once, by_way_of, CallsAre, AllCallsAre, ArgumentShrinks, ArgumentFalls, Falls}
use Rattle.eqn_check.specs.Conditions.{BeginDifferently, IsFalseByForm}
use Rattle.eqn_check.specs.Exclusion.{Exclude}
use Rattle.eqn_check.specs.Rules.{Rule, shape, repeat, overlap, recursion, Breaks, AreAccepted}
use Rattle.eqn_check.specs.AcceptedLaws.{AreWellFormed, IsNewEmptyList, AreNewEmptyLists, AcceptedEquationsStayAccepted, AcceptedEquationsAreConsistentInGrownData}
use Rattle.eqn_check.proofs.Elements.{contains_at}
use Rattle.eqn_check.proofs.Decided.{not_refused, left_side_decided}
use Rattle.eqn_check.proofs.SettledValues.{arguments_sorted}
use Rattle.eqn_check.proofs.AcceptedLemmas.{called_within, accepted_equations_are_consistent}

-- ---- places of joined lists
-- what stands at a place of two lists stands in the first one there, or in the second one that much later
pub place_in_joined : {A : Type 0} (xs ys : List A) (k : ℕ) (x : A) → slice_get (xs ++ ys) k ≡ Some x → (slice_get xs k ≡ Some x) ⊎ ((j : ℕ) × (k ≡ length xs + j) × (slice_get ys j ≡ Some x))
place_in_joined [] ys k x e = inr (k, omega arith, e)
place_in_joined (y ∷ xs) ys zero x e = inl e
place_in_joined (y ∷ xs) ys (suc k) x e = ⊎_elim (λ h. inl h) (λ h. inr (h.0, (let l = h.1 in omega arith), h.2)) (place_in_joined xs ys k x e)

within_list : {A : Type 0} (xs : List A) (k : ℕ) (x : A) → slice_get xs k ≡ Some x → k < length xs
within_list [] k x e = cc
within_list (y ∷ xs) zero x e = omega arith
within_list (y ∷ xs) (suc k) x e = omega (arith, within_list xs k x e)

-- ---- what is of a mapping
of_application : (n f : ℕ) (ts : Terms) (t : Term) → t ≡ application (function n) ts → IsOf f t → n ≡ f
of_application n f ts t e o = let h : IsOf f (application (function n) ts) = subst (IsOf f) e o in h

-- the function of a well-sorted term is declared
of_within : (g : Data) (vs : List Sort) (t : Term) (s : Sort) (f : ℕ) → HasSort g vs t s → IsOf f t → f < length g.functions
of_within g vs (application (function k) ts) s f h o = subst (λ n. n < length g.functions) o h.0
of_within g vs (variable x) s f h o = absurd o
of_within g vs (numeral a z) s f h o = absurd o
of_within g vs (unknown d i) s f h o = absurd o
of_within g vs (application _ ts) s f h o = absurd o

module _ (g h : Data) (ok : IsData h) (grows : Grows g h) (own added : List Equation) (well : AreWellFormed g own) (accepted : AreAccepted g own) (new : AreNewEmptyLists g h added) where
  -- ---- shapes stay
  role_stays : (f : ℕ) → f < length g.functions → (function_at h f).role ≡ (function_at g f).role
  role_stays f l = ap (λ (d : DeclaredFunction). d.role) (function_in_grown g h grows f l)

  constructor_stays : (f : Symbol) → IsSymbol g f → IsConstructor g f → IsConstructor h f
  constructor_stays (function c) i k = role_stays c i ∙ k
  constructor_stays truth i k = tt
  constructor_stays falsity i k = tt
  constructor_stays (empty s) i k = tt
  constructor_stays (cons s) i k = tt
  constructor_stays _ i k = absurd k

  mutual
    pattern_stays : (vs : List Sort) (t : Term) (s : Sort) → HasSort g vs t s → IsPattern g t → IsPattern h t
    pattern_stays vs (variable x) s i p = tt
    pattern_stays vs (numeral a z) s i p = tt
    pattern_stays vs (unknown d z) s i p = absurd p
    pattern_stays vs (application f ts) s i p = (constructor_stays f i.0 p.0, patterns_stay vs ts (argument_sorts g f) i.1 p.1)

    patterns_stay : (vs : List Sort) (ts : Terms) (ss : List Sort) → HaveSorts g vs ts ss → ArePatterns g ts → ArePatterns h ts
    patterns_stay vs none ss i p = tt
    patterns_stay vs (more t ts) [] i p = absurd i
    patterns_stay vs (more t ts) (s ∷ ss) i p = (pattern_stays vs t s i.0 p.0, patterns_stay vs ts ss i.1 p.1)

  left_side_stays : (vs : List Sort) (t : Term) (s : Sort) → HasSort g vs t s → IsLeftSide g t → IsLeftSide h t
  left_side_stays vs (application (function f) ts) s i p = (role_stays f i.0 ∙ p.0, patterns_stay vs ts (function_at g f).arguments i.1 p.1)
  left_side_stays vs (variable x) s i p = absurd p
  left_side_stays vs (numeral a z) s i p = absurd p
  left_side_stays vs (unknown d z) s i p = absurd p
  left_side_stays vs (application _ ts) s i p = absurd p

  -- ---- exclusion stays
  declared_constructor : (c : ℕ) → (function_at g c).role ≡ constructor → c < length g.functions
  declared_constructor c k = by_bound (leb_tells (length g.functions) c)
    where
      by_bound : ((leb (length g.functions) c ≡ true) × (length g.functions ≤ c)) ⊎ ((leb (length g.functions) c ≡ false) × (c < length g.functions)) → c < length g.functions
      by_bound (inr l) = l.1
      by_bound (inl l) =
          let none_there : function_at g c ≡ record { arguments = []; result = boolean; role = mapping } = get_or-eq_default g.functions (record { arguments = []; result = boolean; role = mapping }) l.1 in
          let m : mapping ≡ constructor = sym (ap (λ (d : DeclaredFunction). d.role) none_there) ∙ k in cc

  any_constructor_stays : (f : Symbol) → IsConstructor g f → IsConstructor h f
  any_constructor_stays (function c) k = role_stays c (declared_constructor c k) ∙ k
  any_constructor_stays truth k = tt
  any_constructor_stays falsity k = tt
  any_constructor_stays (empty s) k = tt
  any_constructor_stays (cons s) k = tt
  any_constructor_stays _ k = absurd k

  differently_stays : (t u : Term) → BeginDifferently g t u → BeginDifferently h t u
  differently_stays (application c ts) (application d us) b = (any_constructor_stays c b.0, any_constructor_stays d b.1, b.2)
  differently_stays (variable x) u b = absurd b
  differently_stays (numeral a z) u b = absurd b
  differently_stays (unknown d z) u b = absurd b
  differently_stays (application f ts) (variable x) b = absurd b
  differently_stays (application f ts) (numeral a z) b = absurd b
  differently_stays (application f ts) (unknown d z) b = absurd b

  false_stays : (t : Term) → IsFalseByForm g t → IsFalseByForm h t
  false_stays t (inl e) = inl e
  false_stays t (inr s) = inr (s.0, s.1, ⊎_elim (λ n. inl n) (λ n. inr (⊎_elim (λ e. inl e) (λ d. inr (d.0, differently_stays s.0.one s.0.other d.1)) n)) s.2)

  exclusion_stays : (p q : Equation) → Exclude g p q → Exclude h p q
  exclusion_stays p q x = record {
    into_first = x.into_first;
    into_second = x.into_second;
    general = x.general;
    so = ⊎_elim (λ e. inl e) (λ n. inr (⊎_elim (λ f. inl (f.0, f.1, false_stays f.0 f.2)) (λ c. inr c) n)) x.so;
  }

  -- ---- added equations call nothing
  no_calls : (t : Term) (c : Symbol) (f : ℕ) → t ≡ application c none → c ≢ function f → Calls t f → ⊥
  no_calls t c f e n i = ⊎_elim (λ k. n k) (λ k. k) (let j : Calls (application c none) f = subst (λ z. Calls z f) e i in j)

  added_call_nothing : (q : Equation) → IsNewEmptyList g h q → (f : ℕ) → EquationCalls q f → ⊥
  added_call_nothing q is f (inl c) = no_calls q.condition truth f is.condition (λ e. cc) c
  added_call_nothing q is f (inr c) = no_calls q.right (empty is.right.0) f is.right.2 (λ e. cc) c

  -- ---- calls and falling places
  old_call : (f k : ℕ) → FunctionCalls h (own ++ added) f k → FunctionCalls g own f k
  old_call f k c = elim (Contains-append_cases own added c.equation c.stands) [
    | inl i ↦
        let l = called_in_old c.equation i k c.calls in
        record { equation = c.equation; stands = i; is_of = c.is_of; calls = c.calls; is_mapping = sym (role_stays k l) ∙ c.is_mapping }
    | inr i ↦ absurd (added_call_nothing c.equation (new.each c.equation i) k c.calls)
  ]
    where
      called_in_old : (q : Equation) → Contains own q → (k : ℕ) → EquationCalls q k → k < length g.functions
      called_in_old q i k (inl c) = let w = well q i in called_within g q.sorts q.condition boolean k w.condition c
      called_in_old q i k (inr c) = let w = well q i in called_within g q.sorts q.right w.sort k w.right c

  old_way : (f k : ℕ) → Reaches h (own ++ added) f k → Reaches g own f k
  old_way f k (at_once c) = at_once (old_call f k c)
  old_way f k (by_way_of {h = z} c way) = by_way_of (old_call f z c) (old_way z k way)

  called_before : (q : Equation) → Contains own q → (k : ℕ) → EquationCalls q k → k < length g.functions
  called_before q i k (inl c) = let w = well q i in called_within g q.sorts q.condition boolean k w.condition c
  called_before q i k (inr c) = let w = well q i in called_within g q.sorts q.right w.sort k w.right c

  mutual
    under_stays : (vs : List Sort) (t : Term) (s : Sort) (x : ℕ) → HasSort g vs t s → StandsUnder g x t → StandsUnder h x t
    under_stays vs (variable y) s x i u = absurd u
    under_stays vs (numeral a z) s x i u = absurd u
    under_stays vs (unknown d z) s x i u = absurd u
    under_stays vs (application f ts) s x i (inl u) = inl (constructor_stays f i.0 u.0, u.1)
    under_stays vs (application f ts) s x i (inr u) = inr (under_one_stays vs ts (argument_sorts g f) x i.1 u)

    under_one_stays : (vs : List Sort) (ts : Terms) (ss : List Sort) (x : ℕ) → HaveSorts g vs ts ss → StandsUnderOne g x ts → StandsUnderOne h x ts
    under_one_stays vs none ss x i u = absurd u
    under_one_stays vs (more t ts) [] x i u = absurd i
    under_one_stays vs (more t ts) (s ∷ ss) x i (inl u) = inl (under_stays vs t s x i.0 u)
    under_one_stays vs (more t ts) (s ∷ ss) x i (inr u) = inr (under_one_stays vs ts ss x i.1 u)

  under_at_stays : (vs : List Sort) (ts : Terms) (ss : List Sort) (k x : ℕ) → HaveSorts g vs ts ss → StandsUnder g x (term_at ts k) → StandsUnder h x (term_at ts k)
  under_at_stays vs none ss k x i u = ⊎_elim (λ d. inl (tt, d.1)) (λ d. inr d) u
  under_at_stays vs (more t ts) [] k x i u = absurd i
  under_at_stays vs (more t ts) (s ∷ ss) zero x i u = under_stays vs t s x i.0 u
  under_at_stays vs (more t ts) (s ∷ ss) (suc k) x i u = under_at_stays vs ts ss k x i.1 u

  mutual
    calls_stay : (Are Also : Terms → Type 0) → ((ts : Terms) → Are ts → Also ts) → (f : ℕ) (t : Term) → CallsAre Are f t → CallsAre Also f t
    calls_stay Are Also also f (variable y) c = tt
    calls_stay Are Also also f (numeral a z) c = tt
    calls_stay Are Also also f (unknown d z) c = tt
    calls_stay Are Also also f (application s ts) c = ((λ e. also ts (c.0 e)), all_calls_stay Are Also also f ts c.1)

    all_calls_stay : (Are Also : Terms → Type 0) → ((ts : Terms) → Are ts → Also ts) → (f : ℕ) (ts : Terms) → AllCallsAre Are f ts → AllCallsAre Also f ts
    all_calls_stay Are Also also f none c = tt
    all_calls_stay Are Also also f (more t ts) c = (calls_stay Are Also also f t c.0, all_calls_stay Are Also also f ts c.1)

  module _ (f k : ℕ) (vs ss : List Sort) (ps : Terms) (sorted : HaveSorts g vs ps ss) where
    shrinking_stays : (ts : Terms) → ArgumentShrinks g k ps ts → ArgumentShrinks h k ps ts
    shrinking_stays ts a = (a.0, a.1, under_at_stays vs ps ss k a.0 sorted a.2)

    falling_stays : (c : Term) (ts : Terms) → ArgumentFalls g c k ps ts → ArgumentFalls h c k ps ts
    falling_stays c ts a = ⊎_elim (λ b. inl (shrinking_stays ts b)) (λ b. inr b) a

  still_falls : (f k : ℕ) → f < length g.functions → Falls g own f k → Falls h (own ++ added) f k
  still_falls f k l falls q i o = elim (Contains-append_cases own added q i) [
    | inl j ↦
        let w = well q j in
        let sorted = arguments_sorted g q.sorts q.left w.sort f w.left o in
        let both = falls q j o in
        let ps = arguments_of q.left in (
          calls_stay (ArgumentShrinks g k ps) (ArgumentShrinks h k ps) (shrinking_stays f k q.sorts (function_at g f).arguments ps sorted) f q.condition both.0,
          calls_stay (ArgumentFalls g q.condition k ps) (ArgumentFalls h q.condition k ps) (falling_stays f k q.sorts (function_at g f).arguments ps sorted q.condition) f q.right both.1,
        )
    | inr j ↦ let is = new.each q j in absurd (let same = of_application is.map f none q.left is.left o in let m = is.is_new in omega (arith, same))
  ]

  -- ---- no rule is broken
  old_keeps : (k : ℕ) (q : Equation) → slice_get own k ≡ Some q → (r : Rule) → Breaks h (own ++ added) k q r → ⊥
  old_keeps k q at shape b =
      let i = contains_at own k q at in
      let w = well q i in
      b (left_side_stays q.sorts q.left w.sort w.left (not_refused (left_side_decided g q.left) (λ n. accepted k q at shape n)))
  old_keeps k q at repeat b = accepted k q at repeat b
  old_keeps k q at overlap b = elim (place_in_joined own added b.earlier b.equation b.stands) [
    | inl e ↦ accepted k q at overlap (record { earlier = b.earlier; is_earlier = b.is_earlier; equation = b.equation; stands = e; meet = b.meet; excluded = λ x. b.excluded (exclusion_stays b.equation q x) })
    | inr e ↦ let l = within_list own k q at in let p = b.is_earlier in absurd (omega (arith, e.1))
  ]
  old_keeps k q at recursion (f, o, inl around) =
      let i = contains_at own k q at in
      let l = called_before q i around.other around.calls in
      accepted k q at recursion (f, o, inl (record { other = around.other; is_other = around.is_other; is_mapping = sym (role_stays around.other l) ∙ around.is_mapping; calls = around.calls; reaches = old_way around.other f around.reaches }))
  old_keeps k q at recursion (f, o, inr no_fall) =
      let i = contains_at own k q at in
      let w = well q i in
      let l = of_within g q.sorts q.left w.sort f w.left o in
      accepted k q at recursion (f, o, inr (record { calls = no_fall.calls; no_place = λ j m falls. no_fall.no_place j (subst (λ n. j < n) (sym (ap (λ (d : DeclaredFunction). length d.arguments) (function_in_grown g h grows f l))) m) (still_falls f j l falls) }))

  added_keeps : (j : ℕ) (q : Equation) → slice_get added j ≡ Some q → (r : Rule) → Breaks h (own ++ added) (length own + j) q r → ⊥
  added_keeps j q at shape b = let is = new.each q (contains_at added j q at) in b (subst (IsLeftSide h) (sym is.left) (is.role, tt))
  added_keeps j q at repeat b = let is = new.each q (contains_at added j q at) in b (subst (λ t. AreDistinct (variables_of t)) (sym is.left) tt)
  added_keeps j q at overlap b = elim (place_in_joined own added b.earlier b.equation b.stands) [
    | inl e ↦
        let i = contains_at own b.earlier b.equation e in
        let w = well b.equation i in
        let l = of_within g b.equation.sorts b.equation.left w.sort b.meet.map w.left b.meet.first in
        let is = new.each q (contains_at added j q at) in
        absurd (let same = of_application is.map b.meet.map none q.left is.left b.meet.second in let m = is.is_new in omega (arith, same))
    | inr e ↦
        let first = new.each b.equation (contains_at added e.0 b.equation e.2) in
        let second = new.each q (contains_at added j q at) in
        let one_map : first.map ≡ second.map = of_application first.map b.meet.map none b.equation.left first.left b.meet.first ∙ sym (of_application second.map b.meet.map none q.left second.left b.meet.second) in
        let one_place : e.0 ≡ j = new.once e.0 j b.equation q e.2 at (first.left ∙ (ap (λ n. application (function n) none) one_map ∙ sym second.left)) in
        absurd (let l = b.is_earlier in omega (arith, e.1))
  ]
  added_keeps j q at recursion (f, o, inl around) = added_call_nothing q (new.each q (contains_at added j q at)) around.other around.calls
  added_keeps j q at recursion (f, o, inr no_fall) = added_call_nothing q (new.each q (contains_at added j q at)) f no_fall.calls

  stay_accepted : AreAccepted h (own ++ added)
  stay_accepted k q at r b = elim (place_in_joined own added k q at) [
    | inl e ↦ old_keeps k q e r b
    | inr e ↦ added_keeps e.0 q e.2 r (subst (λ n. Breaks h (own ++ added) n q r) e.1 b)
  ]

  -- ---- all is well formed
  added_is_well_formed : (q : Equation) → IsNewEmptyList g h q → IsWellFormed h q
  added_is_well_formed q is = record {
    covered = record { condition = subst (IsOver (variables_of q.left)) (sym is.condition) tt; right = subst (IsOver (variables_of q.left)) (sym is.right.2) tt };
    no_variable = subst IsNoVariable (sym is.left) tt;
    sort = list is.right.0;
    condition = subst (λ t. HasSort h q.sorts t boolean) (sym is.condition) (tt, tt, refl, refl);
    left = subst (λ t. HasSort h q.sorts t (list is.right.0)) (sym is.left) (is.is_declared, subst (λ ss. HaveSorts h q.sorts none ss) (sym is.arguments) tt, is.right.1, refl);
    right = subst (λ t. HasSort h q.sorts t (list is.right.0)) (sym is.right.2) (subst (IsSort h) is.right.1 (ok.results is.map is.is_declared), tt, refl, refl);
  }

  stay_well_formed : AreWellFormed h (own ++ added)
  stay_well_formed q i = elim (Contains-append_cases own added q i) [
    | inl j ↦
        let w = well q j in
        record { covered = w.covered; no_variable = w.no_variable; sort = w.sort; condition = has_sort_in_grown g h grows q.sorts q.condition boolean w.condition; left = has_sort_in_grown g h grows q.sorts q.left w.sort w.left; right = has_sort_in_grown g h grows q.sorts q.right w.sort w.right }
    | inr j ↦ added_is_well_formed q (new.each q j)
  ]

pub accepted_equations_stay_accepted : AcceptedEquationsStayAccepted
accepted_equations_stay_accepted g h ok grows own added well accepted new = (stay_well_formed g h ok grows own added well accepted new, stay_accepted g h ok grows own added well accepted new)

pub consistent_in_grown_data : AcceptedEquationsAreConsistentInGrownData
consistent_in_grown_data g h ok filled grows own added well accepted new =
    let stay = accepted_equations_stay_accepted g h ok grows own added well accepted new in
    accepted_equations_are_consistent h ok filled (own ++ added) stay.0 stay.1
