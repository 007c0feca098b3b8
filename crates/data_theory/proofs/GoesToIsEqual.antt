-- What a term goes to has its sort, and is provably equal to it in every closed instance.
use Rattle.std.proofs.Common.{arith, length, ◌+◌, ◌≡◌, ℕ, zero, suc, List, [], ◌∷◌, ◌++◌, refl, sym, ap, ap₂, ◌∙◌, subst, ⊎_elim}
use Rattle.std.specs.Prelude.{Contains}
use Rattle.std.proofs.lemmas.Option.{slice_get_within, get_or_from_slice_get}
use Rattle.std.proofs.lemmas.List.Elements.{Contains-append_cases}
use Rattle.data_theory.specs.Terms.{Sort, boolean, Symbol, Term, Terms, variable, numeral, unknown, application, none, more, apply, put, put_all, variables_of, variables_of_all}
use Rattle.data_theory.specs.Declarations.{Data, IsData, Declares, argument_sorts, StandsUnmerged, HasSort, HaveSorts}
use Rattle.data_theory.specs.Equations.{trueᵗ, falseᵗ}
use Rattle.data_theory.specs.Provable.{Equation, IsClosedInstance, ProvablyEqual, PlacesEqual, reflexive, transitive, congruent, built_in, written, no_places, place}
use Rattle.data_theory.specs.Environments.{IsOver, AreOver}
use Rattle.data_theory.specs.Rewriting.{lines, DecidedYesIsTrue, DecidedNoIsFalse, UnmatchedRootsStay, laid, laid_all, Applies, a_line, an_equation, LooksFirst, if_looks, and_looks, or_looks, implies_looks, GoesTo, a_variable, a_numeral, an_unknown, by_the_first, by_all, ArgumentsGoTo, no_arguments, an_argument, RootGoesTo, merged, tries, FromEquation, stays, passed, refused, used, ConditionGoesTo, without_condition, with_condition, IsNoVariable, IsWellFormed, AreSorts, Closes, GoesToKeepsTheSort, GoesToIsProvablyEqual}
use Rattle.data_theory.proofs.EqualityLemmas.{places_reflexive}
use Rattle.data_theory.proofs.EnvironmentLemmas.{contains_nothing, contains_cases, put-apply, putting_in_twice, putting_in_keeps_sorts, applications_have_sorts, one_sort, variable_declared}
use Rattle.data_theory.proofs.LinesOnTerms.{condition_sort, right_sort, line_put}

-- ---- variables
-- a variable of a term over xs is among xs
mutual
  pub over_contains : (xs : List ℕ) (t : Term) (v : ℕ) → IsOver xs t → Contains (variables_of t) v → Contains xs v
  over_contains xs (variable w) v o i = ⊎_elim (λ e. subst (Contains xs) e o) (λ n. absurd (contains_nothing v n)) (contains_cases w v [] i)
  over_contains xs (numeral a z) v o i = absurd (contains_nothing v i)
  over_contains xs (unknown d k) v o i = absurd (contains_nothing v i)
  over_contains xs (application f ts) v o i = over_all_contain xs ts v o i

  pub over_all_contain : (xs : List ℕ) (ts : Terms) (v : ℕ) → AreOver xs ts → Contains (variables_of_all ts) v → Contains xs v
  over_all_contain xs none v o i = absurd (contains_nothing v i)
  over_all_contain xs (more t ts) v o i = ⊎_elim (λ j. over_contains xs t v o.0 j) (λ j. over_all_contain xs ts v o.1 j) (Contains-append_cases (variables_of t) (variables_of_all ts) v i)

-- terms put in for the variables that occur are enough
mutual
  pub put_sort : (g : Data) (xs : List ℕ) (vs us : List Sort) (e : ℕ → Term) → ((v : ℕ) (s : Sort) → Contains xs v → Declares vs v s → HasSort g us (e v) s) → (t : Term) (s : Sort) → IsOver xs t → HasSort g vs t s → HasSort g us (put e t) s
  put_sort g xs vs us e h (variable v) s o i = h v s o i
  put_sort g xs vs us e h (numeral a z) s o i = i
  put_sort g xs vs us e h (unknown d k) s o i = i
  put_sort g xs vs us e h (application f ts) s o i = subst (λ r. HasSort g us (apply f (put_all e ts)) r) i.2 (applications_have_sorts g us f (put_all e ts) i.0 (put_all_sorts g xs vs us e h ts (argument_sorts g f) o i.1))

  put_all_sorts : (g : Data) (xs : List ℕ) (vs us : List Sort) (e : ℕ → Term) → ((v : ℕ) (s : Sort) → Contains xs v → Declares vs v s → HasSort g us (e v) s) → (ts : Terms) (ss : List Sort) → AreOver xs ts → HaveSorts g vs ts ss → HaveSorts g us (put_all e ts) ss
  put_all_sorts g xs vs us e h none [] o i = tt
  put_all_sorts g xs vs us e h none (s ∷ ss) o i = absurd i
  put_all_sorts g xs vs us e h (more t ts) [] o i = absurd i
  put_all_sorts g xs vs us e h (more t ts) (s ∷ ss) o i = (put_sort g xs vs us e h t s o.0 i.0, put_all_sorts g xs vs us e h ts ss o.1 i.1)

-- ---- a pattern laid over a well-sorted term
module _ (g : Data) (ws vs : List Sort) (d : ℕ → Term) where
  mutual
    -- its variables stand for terms of their sorts
    pub laid_fits : (l : Term) (s : Sort) → HasSort g ws l s → HasSort g vs (laid d l) s → (v : ℕ) (b : Sort) → Contains (variables_of l) v → Declares ws v b → HasSort g vs (d v) b
    laid_fits (variable w) s h k v b i j =
        let same : w ≡ v = ⊎_elim (λ e. e) (λ n. absurd (contains_nothing v n)) (contains_cases w v [] i) in
        let sort : s ≡ b = one_sort ws v s b (subst (λ x. Declares ws x s) same h) j in
        subst (HasSort g vs (d v)) sort (subst (λ x. HasSort g vs (d x) s) same k)
    laid_fits (numeral a z) s h k v b i j = absurd (contains_nothing v i)
    laid_fits (unknown a z) s h k v b i j = absurd (contains_nothing v i)
    laid_fits (application f ts) s h k v b i j = laid_all_fit ts (argument_sorts g f) h.1 k.1 v b i j

    pub laid_all_fit : (ts : Terms) (ss : List Sort) → HaveSorts g ws ts ss → HaveSorts g vs (laid_all d ts) ss → (v : ℕ) (b : Sort) → Contains (variables_of_all ts) v → Declares ws v b → HasSort g vs (d v) b
    laid_all_fit none ss h k v b i j = absurd (contains_nothing v i)
    laid_all_fit (more t ts) [] h k v b i j = absurd h
    laid_all_fit (more t ts) (s ∷ ss) h k v b i j = ⊎_elim (λ c. laid_fits t s h.0 k.0 v b c j) (λ c. laid_all_fit ts ss h.1 k.1 v b c j) (Contains-append_cases (variables_of t) (variables_of_all ts) v i)

  mutual
    -- and nothing in it merges
    pub put_laid : (l : Term) (s : Sort) → HasSort g vs (laid d l) s → put d l ≡ laid d l
    put_laid (variable w) s k = refl
    put_laid (numeral a z) s k = refl
    put_laid (unknown a z) s k = refl
    put_laid (application f ts) s k = ap (apply f) (put_all_laid ts (argument_sorts g f) k.1) ∙ k.3

    pub put_all_laid : (ts : Terms) (ss : List Sort) → HaveSorts g vs (laid_all d ts) ss → put_all d ts ≡ laid_all d ts
    put_all_laid none ss k = refl
    put_all_laid (more t ts) [] k = absurd k
    put_all_laid (more t ts) (s ∷ ss) k = ap₂ (λ u us. more u us) (put_laid t s k.0) (put_all_laid ts ss k.1)

  -- a pattern that isn't a variable has the term's sort
  pub laid_sort : (l : Term) (a s : Sort) → IsNoVariable l → HasSort g ws l a → HasSort g vs (laid d l) s → a ≡ s
  laid_sort (variable w) a s n h k = absurd n
  laid_sort (numeral b z) a s n h k = sym h.0 ∙ k.0
  laid_sort (unknown b z) a s n h k = h.0 ∙ sym k.0
  laid_sort (application f ts) a s n h k = sym h.2 ∙ k.2

pub looks_first_unmerged : (f : Symbol) (ts : Terms) → LooksFirst f → StandsUnmerged f ts
looks_first_unmerged f ts if_looks = refl
looks_first_unmerged f ts and_looks = refl
looks_first_unmerged f ts or_looks = refl
looks_first_unmerged f ts implies_looks = refl

-- an instance of a well-formed equation by closed terms for the variables of its left side
pub closed_instance : (g : Data) (q : Equation) → IsWellFormed g q → (e : ℕ → Term) → ((v : ℕ) (s : Sort) → Contains (variables_of q.left) v → Declares q.sorts v s → HasSort g [] (e v) s) → IsClosedInstance g q e
closed_instance g q w e fits v j =
    let xs = variables_of q.left in
    let within : Contains xs v = ⊎_elim
    (λ m. over_contains xs q.condition v w.covered.condition m)
    (λ m. ⊎_elim (λ o. o) (λ o. over_contains xs q.right v w.covered.right o) (Contains-append_cases (variables_of q.left) (variables_of q.right) v m))
    (Contains-append_cases (variables_of q.condition) (variables_of q.left ++ variables_of q.right) v j) in
    let sort = variable_declared g q.sorts q.left w.sort w.left v within in
    (sort.0, sort.1, fits v sort.0 within sort.1)

module _ (g : Data) (own : List Equation) (ok : IsData g) (all : (q : Equation) → Contains own q → IsWellFormed g q) (vs : List Sort) (sorts : AreSorts g vs) where
  -- u has the sort s, and the closed instances of t and u are provably equal
  record Follows (t u : Term) (s : Sort) : Type 0 where
    sort : HasSort g vs u s
    equal : (e : ℕ → Term) → Closes g vs e → ProvablyEqual g own (put e t) (put e u)

  record AllFollow (ts us : Terms) (ss : List Sort) : Type 0 where
    sorts' : HaveSorts g vs us ss
    equal : (e : ℕ → Term) → Closes g vs e → PlacesEqual g own (put_all e ts) (put_all e us)

  pub record Applied (t c r : Term) (s : Sort) : Type 0 where
    pub condition : HasSort g vs c boolean
    pub sort : HasSort g vs r s
    pub equal : (e : ℕ → Term) → Closes g vs e → ProvablyEqual g own (put e c) trueᵗ → ProvablyEqual g own (put e t) (put e r)

  pub equation_applied : (q : Equation) → Contains own q → (d : ℕ → Term) (s : Sort) → HasSort g vs (laid d q.left) s → Applied (laid d q.left) (put d q.condition) (put d q.right) s
  equation_applied q i d s h =
      let w = all q i in
      let same : w.sort ≡ s = laid_sort g q.sorts vs d q.left w.sort s w.no_variable w.left h in
      let left : HasSort g q.sorts q.left s = subst (HasSort g q.sorts q.left) same w.left in
      let fits = laid_fits g q.sorts vs d q.left s left h in
      let xs = variables_of q.left in
      record {
        condition = put_sort g xs q.sorts vs d fits q.condition boolean w.covered.condition w.condition;
        sort = put_sort g xs q.sorts vs d fits q.right s w.covered.right (subst (HasSort g q.sorts q.right) same w.right);
        equal = λ e closes c.
            let f : ℕ → Term = λ v. put e (d v) in
            let closed : IsClosedInstance g q f = closed_instance g q w f (λ v a within k. putting_in_keeps_sorts g vs [] e closes (d v) a (fits v a within k)) in
            let left_is : put f q.left ≡ put e (laid d q.left) = sym (putting_in_twice d e q.left) ∙ ap (put e) (put_laid g q.sorts vs d q.left s h) in
            subst (λ x. ProvablyEqual g own x (put e (put d q.right))) left_is (subst (ProvablyEqual g own (put f q.left)) (sym (putting_in_twice d e q.right)) (written q f i closed (subst (λ x. ProvablyEqual g own x trueᵗ) (putting_in_twice d e q.condition) c)));
      }

  pub applied : {k : ℕ} {t c r : Term} {x : ℕ} (s : Sort) → HasSort g vs t s → Applies g own k t c r x → Applied t c r s
  applied {t = t} s h (a_line b p) = record {
    condition = condition_sort g vs ok sorts b s h;
    sort = right_sort g vs ok sorts b s h;
    equal = λ e closes c. built_in s (line_put g vs ok sorts b s h e) (putting_in_keeps_sorts g vs [] e closes t s h) c;
  }
  applied {t = t} s h (an_equation {q = q} i d p k is) =
      subst (λ x. Applied x (put d q.condition) (put d q.right) s) is
      (equation_applied q (i, slice_get_within own i q p, get_or_from_slice_get own i q q p) d s (subst (λ x. HasSort g vs x s) (sym is) h))

  first_follows : (ss : List Sort) (a b : Term) (ts : Terms) → ((s : Sort) → HasSort g vs a s → Follows a b s) → HaveSorts g vs (more a ts) ss → AllFollow (more a ts) (more b ts) ss
  first_follows [] a b ts f h = absurd h
  first_follows (s ∷ ss) a b ts f h = let r = f s h.0 in record { sorts' = (r.sort, h.1); equal = λ e closes. place (r.equal e closes) (places_reflexive g own (put_all e ts)) }

  mutual
    follows : {t u : Term} {n : ℕ} → GoesTo g own t u n → (s : Sort) → HasSort g vs t s → Follows t u s
    follows a_variable s h = record { sort = h; equal = λ e closes. reflexive }
    follows a_numeral s h = record { sort = h; equal = λ e closes. reflexive }
    follows an_unknown s h = record { sort = h; equal = λ e closes. reflexive }
    follows (by_the_first {f = f} {t = a} {b = b} {ts = ts} i c r) s h =
        let p = first_follows (argument_sorts g f) a b ts (λ x k. follows i x k) h.1 in
        let q = root_follows r s (h.0, p.sorts', h.2, looks_first_unmerged f (more b ts) c.0) in
        record { sort = q.sort; equal = λ e closes. transitive (congruent f (p.equal e closes)) (q.equal e closes) }
    follows (by_all {f = f} {us = us} {u = u} i n r) s h =
        let p = all_follow i (argument_sorts g f) h.1 in
        let sort : HasSort g vs (apply f us) s = subst (HasSort g vs (apply f us)) h.2 (applications_have_sorts g vs f us h.0 p.sorts') in
        let q = root_follows r s sort in
        record { sort = q.sort; equal = λ e closes. transitive (congruent f (p.equal e closes)) (subst (λ x. ProvablyEqual g own x (put e u)) (put-apply e f us) (q.equal e closes)) }

    all_follow : {ts us : Terms} {n : ℕ} → ArgumentsGoTo g own ts us n → (ss : List Sort) → HaveSorts g vs ts ss → AllFollow ts us ss
    all_follow no_arguments ss h = record { sorts' = h; equal = λ e closes. no_places }
    all_follow (an_argument i rest) [] h = absurd h
    all_follow (an_argument i rest) (s ∷ ss) h =
        let p = follows i s h.0 in
        let q = all_follow rest ss h.1 in
        record { sorts' = (p.sort, q.sorts'); equal = λ e closes. place (p.equal e closes) (q.equal e closes) }

    root_follows : {t u : Term} {n : ℕ} → RootGoesTo g own t u n → (s : Sort) → HasSort g vs t s → Follows t u s
    root_follows merged s h = record { sort = h; equal = λ e closes. reflexive }
    root_follows (tries r) s h = equation_follows r s h

    condition_follows : {c d : Term} {n : ℕ} → ConditionGoesTo g own c d n → HasSort g vs c boolean → d ≡ trueᵗ → (e : ℕ → Term) → Closes g vs e → ProvablyEqual g own (put e c) trueᵗ
    condition_follows {c} (without_condition p) h k e closes = subst (λ x. ProvablyEqual g own (put e x) trueᵗ) (sym p) reflexive
    condition_follows {c} (with_condition n i) h k e closes = subst (λ x. ProvablyEqual g own (put e c) (put e x)) k ((follows i boolean h).equal e closes)

    equation_follows : {k : ℕ} {t u : Term} {n : ℕ} → FromEquation g own k t u n → (s : Sort) → HasSort g vs t s → Follows t u s
    equation_follows (stays p) s h = record { sort = h; equal = λ e closes. reflexive }
    equation_follows (passed l n r) s h = equation_follows r s h
    equation_follows (refused l a c d r) s h = equation_follows r s h
    equation_follows (used l a c d r) s h =
        let p = applied s h a in
        let q = follows r s p.sort in
        record { sort = q.sort; equal = λ e closes. transitive (p.equal e closes (condition_follows c p.condition d e closes)) (q.equal e closes) }

pub goes_to_is_provably_equal : GoesToIsProvablyEqual
goes_to_is_provably_equal g own ok all vs sorts t u n s h r e closes = (follows g own ok all vs sorts r s h).equal e closes

pub goes_to_keeps_the_sort : GoesToKeepsTheSort
goes_to_keeps_the_sort g own ok all vs sorts t u n s h r = (follows g own ok all vs sorts r s h).sort

pub decided_yes_is_true : DecidedYesIsTrue
decided_yes_is_true g own ok all vs sorts fuel t h d e closes = goes_to_is_provably_equal g own ok all vs sorts t trueᵗ d.0 boolean h d.1 e closes

pub decided_no_is_false : DecidedNoIsFalse
decided_no_is_false g own ok all vs sorts fuel t h d e closes = goes_to_is_provably_equal g own ok all vs sorts t falseᵗ d.0 boolean h d.1 e closes

-- ---- a root at which nothing matches
module _ (g : Data) (own : List Equation) (t : Term) (none_applies : (k : ℕ) (c r : Term) (x : ℕ) → Applies g own k t c r x → ⊥) where
  stays_from : (left k : ℕ) → left + k ≡ lines + length own → FromEquation g own k t t 0
  stays_from zero k e = stays (omega (arith, e))
  stays_from (suc left) k e = passed (omega (arith, e)) (none_applies k) (stays_from left (suc k) (omega (arith, e)))

pub unmatched_roots_stay : UnmatchedRootsStay
unmatched_roots_stay g own t n = stays_from g own t n (lines + length own) 0 (omega arith)
