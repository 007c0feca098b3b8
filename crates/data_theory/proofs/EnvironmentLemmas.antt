-- Environments, and putting in.
use Rattle.std.proofs.Common.{◌≡◌, ℕ, zero, suc, ◌<◌, ◌⊎◌, inl, inr, ⊎_elim, List, [], ◌∷◌, ◌++◌, map, length, Bool, true, false, cond, ◌==◌, refl, sym, ap, ap₂, ◌∙◌, subst, append_assoc, arith, append-nil}
use Rattle.std.specs.Prelude.{◌^◌, Contains, slice_index_or, ℤ, pos}
use Rattle.std.proofs.lemmas.Bool.Decides.{eqb_tells}
use Rattle.std.proofs.lemmas.List.{map-append}
use Rattle.std.proofs.lemmas.List.Elements.{Contains-append_cases}
use Rattle.std.proofs.lemmas.Int.{ints}
use lib.Signed.{lt_z}
use lib.IntN.{neg_ℤ}
use Rattle.data_theory.specs.Terms.{Sort, positive, natural, integer, negated, Symbol, minus, upcast, Term, Terms, variable, numeral, unknown, application, none, more, apply, put, put_all, variables_of, variables_of_all, AreClosed}
use Rattle.data_theory.specs.Declarations.{Data, Declares, IsSymbol, IsUpcast, pos2nat, nat2int, pos2int, HasNumeral, argument_sorts, HasSort, HaveSorts}
use Rattle.data_theory.specs.Provable.{Equation, ProvablyEqual, PlacesEqual, reflexive, congruent, no_places, place}
use Rattle.data_theory.specs.Environments.{Environment, term_in, bound, bound_variables, terms_of, IsOver, AreOver, Agree, Apart}
use Rattle.data_theory.proofs.Numbers.{magnitude-neg}
use Rattle.data_theory.specs.EnvironmentLaws.{EqualOnTheVariablesGiveEqualTerms, EqualOnTheVariablesGiveEqualLists, TheFrontIsRead, TheFrontIsSkipped, TheMiddleIsSkipped, TheUnboundStay, BoundTogether, BoundAreTheParameters, ParametersReadBack, AgreeingGiveTheSameTerm, AgreeingGiveTheSameTerms, PuttingInTwice, ArgumentsPutInFirst, ArgumentsPutInBehindSums, EqualArgumentsGiveEqualEnvironments, EqualEnvironmentsGiveEqualLists, ListsOfTerms, TermsOfLists, PuttingInGoesThroughLists, ApplicationsHaveSorts, PuttingInKeepsSorts, WellSortedOverNothingIsClosed, ClosedTermsNeedNoVariables, ClosedTermsStay, ClosedTermsFitAnywhere}
use Rattle.data_theory.proofs.EqualityLemmas.{put_equal}

-- ---- elements of lists
pub contains_first : (x : ℕ) (xs : List ℕ) → Contains (x ∷ xs) x
contains_first x xs = (0, omega arith, refl)

pub contains_later : (x v : ℕ) (xs : List ℕ) → Contains xs v → Contains (x ∷ xs) v
contains_later x v xs h = let l = h.1 in (suc h.0, omega arith, h.2)

pub contains_cases : (x v : ℕ) (xs : List ℕ) → Contains (x ∷ xs) v → (x ≡ v) ⊎ Contains xs v
contains_cases x v xs h = by_place h.0 h.1 h.2
  where
    by_place : (k : ℕ) → k < length (x ∷ xs) → slice_index_or (x ∷ xs) k v ≡ v → (x ≡ v) ⊎ Contains xs v
    by_place zero l e = inl e
    by_place (suc k) l e = inr (k, omega arith, e)

pub contains_nothing : (v : ℕ) → Contains [] v → ⊥
contains_nothing v h = let l = h.1 in omega arith

equals_itself : (x : ℕ) → (x == x) ≡ true
equals_itself x = ⊎_elim (λ y. y.0) (λ n. absurd (n.1 refl)) (eqb_tells x x)

-- ---- joined environments
pub front_is_read : TheFrontIsRead
front_is_read [] e v h = absurd (contains_nothing v h)
front_is_read (b ∷ d) e v h =
    ⊎_elim
    (λ y. ap (λ c. cond c b.term (term_in (d ++ e) v)) y.0 ∙ ap (λ c. cond c b.term (term_in d v)) (sym y.0))
    (λ n. ap (λ t. cond (b.var == v) b.term t) (front_is_read d e v (⊎_elim (λ q. absurd (n.1 q)) (λ i. i) (contains_cases b.var v (bound_variables d) h))))
    (eqb_tells b.var v)

pub front_is_skipped : TheFrontIsSkipped
front_is_skipped [] e v h = refl
front_is_skipped (b ∷ d) e v h =
    ⊎_elim
    (λ y. absurd (h (subst (λ x. Contains (b.var ∷ bound_variables d) x) y.1 (contains_first b.var (bound_variables d)))))
    (λ n. ap (λ c. cond c b.term (term_in (d ++ e) v)) n.0 ∙ front_is_skipped d e v (λ i. h (contains_later b.var v (bound_variables d) i)))
    (eqb_tells b.var v)

pub middle_is_skipped : TheMiddleIsSkipped
middle_is_skipped [] a e v h = front_is_skipped a e v h
middle_is_skipped (b ∷ d) a e v h = ap (λ t. cond (b.var == v) b.term t) (middle_is_skipped d a e v h)

pub unbound_stay : TheUnboundStay
unbound_stay e v h = sym (ap (λ l. term_in l v) (append-nil e)) ∙ front_is_skipped e [] v h

-- ---- bindings of parameters
pub bound_together : BoundTogether
bound_together [] ys [] us e = refl
bound_together [] ys (t ∷ ts) us e = absurd (omega arith)
bound_together (x ∷ xs) ys [] us e = absurd (omega arith)
bound_together (x ∷ xs) ys (t ∷ ts) us e = ap (λ l. record { var = x; term = t } ∷ l) (bound_together xs ys ts us (omega arith))

pub bound_are_the_parameters : BoundAreTheParameters
bound_are_the_parameters [] ts e = refl
bound_are_the_parameters (x ∷ xs) [] e = absurd (omega arith)
bound_are_the_parameters (x ∷ xs) (t ∷ ts) e = ap (λ l. x ∷ l) (bound_are_the_parameters xs ts (omega arith))

pub parameters_read_back : ParametersReadBack
parameters_read_back d e [] [] l n k = refl
parameters_read_back d e [] (t ∷ ts) l n k = absurd (omega arith)
parameters_read_back d e (x ∷ xs) [] l n k = absurd (omega arith)
parameters_read_back d e (x ∷ xs) (t ∷ ts) l n k =
    let this : Environment = record { var = x; term = t } ∷ [] in
    ap₂ (λ u us. u ∷ us)
    (front_is_skipped d (this ++ (bound xs ts ++ e)) x (λ i. n x i (contains_first x xs)) ∙ ap (λ c. cond c t (term_in (bound xs ts ++ e) x)) (equals_itself x))
    (ap (λ l. map (put (term_in l)) (map variable xs)) (sym (append_assoc d this (bound xs ts ++ e)))
    ∙ parameters_read_back (d ++ this) e xs ts (omega arith)
    (λ v i j. ⊎_elim
    (λ a. n v a (contains_later x v xs j))
    (λ a. ⊎_elim (λ q. k.0 (subst (λ z. Contains xs z) (sym q) j)) (λ z. contains_nothing v z) (contains_cases x v [] a))
    (Contains-append_cases (bound_variables d) (x ∷ []) v (subst (λ z. Contains z v) (map-append (λ b. b.var) d this) i)))
    k.1)

-- ---- environments that agree
mutual
  pub agreeing_give_the_same_term : AgreeingGiveTheSameTerm
  agreeing_give_the_same_term xs d e h (variable v) o = h v o
  agreeing_give_the_same_term xs d e h (numeral a z) o = refl
  agreeing_give_the_same_term xs d e h (unknown a k) o = refl
  agreeing_give_the_same_term xs d e h (application f ts) o = ap (apply f) (agreeing_all xs d e h ts o)

  agreeing_all : (xs : List ℕ) (d e : ℕ → Term) → Agree xs d e → (ts : Terms) → AreOver xs ts → put_all d ts ≡ put_all e ts
  agreeing_all xs d e h none o = refl
  agreeing_all xs d e h (more t ts) o = ap₂ (λ u us. more u us) (agreeing_give_the_same_term xs d e h t o.0) (agreeing_all xs d e h ts o.1)

pub agreeing_give_the_same_terms : AgreeingGiveTheSameTerms
agreeing_give_the_same_terms xs d e h [] o = refl
agreeing_give_the_same_terms xs d e h (t ∷ ts) o = ap₂ (λ u us. u ∷ us) (agreeing_give_the_same_term xs d e h t o.0) (agreeing_give_the_same_terms xs d e h ts o.1)

-- ---- putting in twice
-- a minus sign that doesn't merge with a numeral before it is put in doesn't merge afterwards
put_minus : (e : ℕ → Term) (s : Sort) (z : ℤ) (b : Bool) → lt_z (pos 0) z ≡ b → apply (minus s) (more (numeral s z) none) ≡ negated s z → put e (cond b (numeral integer (neg_ℤ z)) (application (minus s) (more (numeral s z) none))) ≡ cond b (numeral integer (neg_ℤ z)) (application (minus s) (more (numeral s z) none))
put_minus e s z true q is = refl
put_minus e s z false q is = is ∙ ap (λ b. cond b (numeral integer (neg_ℤ z)) (application (minus s) (more (numeral s z) none))) q

-- putting in goes through the merging application
pub put-apply : (e : ℕ → Term) (f : Symbol) (ts : Terms) → put e (apply f ts) ≡ apply f (put_all e ts)
put-apply e (upcast positive natural) (more (numeral positive z) none) = refl
put-apply e (upcast natural integer) (more (numeral natural z) none) = refl
put-apply e (upcast positive integer) (more (numeral positive z) none) = refl
put-apply e (minus positive) (more (numeral positive z) none) = put_minus e positive z (lt_z (pos 0) z) refl refl
put-apply e (minus natural) (more (numeral natural z) none) = put_minus e natural z (lt_z (pos 0) z) refl refl
put-apply e (minus integer) (more (numeral integer z) none) = put_minus e integer z (lt_z (pos 0) z) refl refl
put-apply e f ts = refl

mutual
  pub putting_in_twice : PuttingInTwice
  putting_in_twice d e (variable v) = refl
  putting_in_twice d e (numeral a z) = refl
  putting_in_twice d e (unknown a k) = refl
  putting_in_twice d e (application f ts) = put-apply e f (put_all d ts) ∙ ap (apply f) (putting_all_in_twice d e ts)

  putting_all_in_twice : (d e : ℕ → Term) (ts : Terms) → put_all e (put_all d ts) ≡ put_all (λ v. put e (d v)) ts
  putting_all_in_twice d e none = refl
  putting_all_in_twice d e (more t ts) = ap₂ (λ u us. more u us) (putting_in_twice d e t) (putting_all_in_twice d e ts)

-- the argument for a parameter, as it is and with an environment put in
argument_for : (e : ℕ → Term) (scope xs : List ℕ) (ts : List Term) (v : ℕ) → length ts ≡ length xs → AreOver scope (terms_of ts) → Contains xs v → (t : Term) × IsOver scope t × (term_in (bound xs ts) v ≡ t) × (term_in (bound xs (map (put e) ts)) v ≡ put e t)
argument_for e scope [] ts v l o i = absurd (contains_nothing v i)
argument_for e scope (x ∷ xs) [] v l o i = absurd (omega arith)
argument_for e scope (x ∷ xs) (t ∷ ts) v l o i =
    ⊎_elim
    (λ y. (t, o.0, ap (λ c. cond c t (term_in (bound xs ts) v)) y.0, ap (λ c. cond c (put e t) (term_in (bound xs (map (put e) ts)) v)) y.0))
    (λ n. let r = argument_for e scope xs ts v (omega arith) o.1 (⊎_elim (λ q. absurd (n.1 q)) (λ j. j) (contains_cases x v xs i)) in
    (r.0, r.1, ap (λ c. cond c t (term_in (bound xs ts) v)) n.0 ∙ r.2, ap (λ c. cond c (put e t) (term_in (bound xs (map (put e) ts)) v)) n.0 ∙ r.3))
    (eqb_tells x v)

length_map : {A B : Type 0} (f : A → B) (xs : List A) → length (map f xs) ≡ length xs
length_map f [] = refl
length_map f (x ∷ xs) = ap suc (length_map f xs)

module _ (sums e : Environment) (scope xs : List ℕ) (ts : List Term) (l : length ts ≡ length xs) (o : AreOver scope (terms_of ts)) (off_scope : Apart (bound_variables sums) scope) (off_parameters : Apart (bound_variables sums) xs) where
  for_a_variable : (v : ℕ) → Contains (bound_variables sums ++ xs) v → put (term_in (sums ++ e)) (term_in (bound xs ts) v) ≡ term_in (sums ++ bound xs (map (put (term_in e)) ts)) v
  for_a_variable v i = ⊎_elim
      (λ j. ap (put (term_in (sums ++ e))) (unbound_stay (bound xs ts) v (λ k. off_parameters v j (subst (λ z. Contains z v) (bound_are_the_parameters xs ts l) k)))
      ∙ front_is_read sums e v j
      ∙ sym (front_is_read sums (bound xs (map (put (term_in e)) ts)) v j))
      (λ j. let r = argument_for (term_in e) scope xs ts v l o j in
      ap (put (term_in (sums ++ e))) r.2
      ∙ agreeing_give_the_same_term scope (term_in (sums ++ e)) (term_in e) (λ w k. front_is_skipped sums e w (λ m. off_scope w m k)) r.0 r.1
      ∙ sym r.3
      ∙ sym (front_is_skipped sums (bound xs (map (put (term_in e)) ts)) v (λ m. off_parameters v m j)))
      (Contains-append_cases (bound_variables sums) xs v i)

pub arguments_put_in_behind_sums : ArgumentsPutInBehindSums
arguments_put_in_behind_sums sums e scope xs ts l o a b t i =
    putting_in_twice (term_in (bound xs ts)) (term_in (sums ++ e)) t
    ∙ agreeing_give_the_same_term (bound_variables sums ++ xs) (λ v. put (term_in (sums ++ e)) (term_in (bound xs ts) v)) (term_in (sums ++ bound xs (map (put (term_in e)) ts))) (for_a_variable sums e scope xs ts l o a b) t i

-- without sum variables nothing is asked of the arguments
argument_put : (e : ℕ → Term) (xs : List ℕ) (ts : List Term) (v : ℕ) → length ts ≡ length xs → Contains xs v → put e (term_in (bound xs ts) v) ≡ term_in (bound xs (map (put e) ts)) v
argument_put e [] ts v l i = absurd (contains_nothing v i)
argument_put e (x ∷ xs) [] v l i = absurd (omega arith)
argument_put e (x ∷ xs) (t ∷ ts) v l i =
    ⊎_elim
    (λ y. ap (λ c. put e (cond c t (term_in (bound xs ts) v))) y.0 ∙ sym (ap (λ c. cond c (put e t) (term_in (bound xs (map (put e) ts)) v)) y.0))
    (λ n. ap (λ c. put e (cond c t (term_in (bound xs ts) v))) n.0 ∙ argument_put e xs ts v (omega arith) (⊎_elim (λ q. absurd (n.1 q)) (λ j. j) (contains_cases x v xs i)) ∙ sym (ap (λ c. cond c (put e t) (term_in (bound xs (map (put e) ts)) v)) n.0))
    (eqb_tells x v)

pub arguments_put_in_first : ArgumentsPutInFirst
arguments_put_in_first xs ts e l t i =
    putting_in_twice (term_in (bound xs ts)) (term_in e) t
    ∙ agreeing_give_the_same_term xs (λ v. put (term_in e) (term_in (bound xs ts) v)) (term_in (bound xs (map (put (term_in e)) ts))) (λ v j. argument_put (term_in e) xs ts v l j) t i

-- ---- provably equal environments
choose_equal : (g : Data) (own : List Equation) (b : Bool) (t u x y : Term) → ProvablyEqual g own t u → ProvablyEqual g own x y → ProvablyEqual g own (cond b t x) (cond b u y)
choose_equal g own true t u x y h k = h
choose_equal g own false t u x y h k = k

place_parts : {g : Data} {own : List Equation} {t u : Term} {ts us : Terms} → PlacesEqual g own (more t ts) (more u us) → ProvablyEqual g own t u × PlacesEqual g own ts us
place_parts (place h k) = (h, k)

no_place_left : {g : Data} {own : List Equation} {t : Term} {ts : Terms} → PlacesEqual g own none (more t ts) → ⊥
no_place_left h = elim h [ ]

no_place_right : {g : Data} {own : List Equation} {t : Term} {ts : Terms} → PlacesEqual g own (more t ts) none → ⊥
no_place_right h = elim h [ ]

pub equal_arguments : EqualArgumentsGiveEqualEnvironments
equal_arguments g own [] ts us d e h k v = k v
equal_arguments g own (x ∷ xs) [] [] d e h k v = k v
equal_arguments g own (x ∷ xs) [] (u ∷ us) d e h k v = absurd (no_place_left h)
equal_arguments g own (x ∷ xs) (t ∷ ts) [] d e h k v = absurd (no_place_right h)
equal_arguments g own (x ∷ xs) (t ∷ ts) (u ∷ us) d e h k v =
    let parts = place_parts h in
    choose_equal g own (x == v) t u _ _ parts.0 (equal_arguments g own xs ts us d e parts.1 k v)

pub equal_lists : EqualEnvironmentsGiveEqualLists
equal_lists g own d e h [] = no_places
equal_lists g own d e h (t ∷ ts) = place (put_equal g own d e h t) (equal_lists g own d e h ts)

mutual
  pub equal_on_the_variables : EqualOnTheVariablesGiveEqualTerms
  equal_on_the_variables g own xs d e h (variable v) o = h v o
  equal_on_the_variables g own xs d e h (numeral a z) o = reflexive
  equal_on_the_variables g own xs d e h (unknown a k) o = reflexive
  equal_on_the_variables g own xs d e h (application f ts) o = congruent f (all_equal_on g own xs d e h ts o)

  all_equal_on : (g : Data) (own : List Equation) (xs : List ℕ) (d e : ℕ → Term) → ((v : ℕ) → Contains xs v → ProvablyEqual g own (d v) (e v)) → (ts : Terms) → AreOver xs ts → PlacesEqual g own (put_all d ts) (put_all e ts)
  all_equal_on g own xs d e h none o = no_places
  all_equal_on g own xs d e h (more t ts) o = place (equal_on_the_variables g own xs d e h t o.0) (all_equal_on g own xs d e h ts o.1)

pub lists_equal_on_the_variables : EqualOnTheVariablesGiveEqualLists
lists_equal_on_the_variables g own xs d e h [] o = no_places
lists_equal_on_the_variables g own xs d e h (t ∷ ts) o = place (equal_on_the_variables g own xs d e h t o.0) (lists_equal_on_the_variables g own xs d e h ts o.1)

-- ---- lists of terms
pub lists_of_terms : ListsOfTerms
lists_of_terms [] = refl
lists_of_terms (t ∷ ts) = ap (λ l. t ∷ l) (lists_of_terms ts)

pub terms_of_lists : TermsOfLists
terms_of_lists none = refl
terms_of_lists (more t ts) = ap (more t) (terms_of_lists ts)

pub putting_in_goes_through_lists : PuttingInGoesThroughLists
putting_in_goes_through_lists e [] = refl
putting_in_goes_through_lists e (t ∷ ts) = ap (more (put e t)) (putting_in_goes_through_lists e ts)

-- ---- sorts
wider_numeral : (s to : Sort) (z : ℤ) → IsUpcast s to → HasNumeral s z → HasNumeral to z
wider_numeral s to z pos2nat h = let a = h.0 in (omega (arith, ints, a), h.1)
wider_numeral s to z nat2int h = (tt, h.1)
wider_numeral s to z pos2int h = (tt, h.1)

minus_has_sort : (g : Data) (vs : List Sort) (s : Sort) (z : ℤ) (b : Bool) → lt_z (pos 0) z ≡ b → apply (minus s) (more (numeral s z) none) ≡ negated s z → IsSymbol g (minus s) → HaveSorts g vs (more (numeral s z) none) (argument_sorts g (minus s)) → HasSort g vs (cond b (numeral integer (neg_ℤ z)) (application (minus s) (more (numeral s z) none))) integer
minus_has_sort g vs s z true q is k h = (refl, (tt, subst (λ n. n < 2 ^ 128) (sym (magnitude-neg z)) h.0.1.1))
minus_has_sort g vs s z false q is k h = (k, h, refl, is ∙ ap (λ b. cond b (numeral integer (neg_ℤ z)) (application (minus s) (more (numeral s z) none))) q)

pub applications_have_sorts : ApplicationsHaveSorts
applications_have_sorts g vs (upcast positive natural) (more (numeral positive z) none) k h = (refl, wider_numeral positive natural z k h.0.1)
applications_have_sorts g vs (upcast natural integer) (more (numeral natural z) none) k h = (refl, wider_numeral natural integer z k h.0.1)
applications_have_sorts g vs (upcast positive integer) (more (numeral positive z) none) k h = (refl, wider_numeral positive integer z k h.0.1)
applications_have_sorts g vs (minus positive) (more (numeral positive z) none) k h = minus_has_sort g vs positive z (lt_z (pos 0) z) refl refl k h
applications_have_sorts g vs (minus natural) (more (numeral natural z) none) k h = minus_has_sort g vs natural z (lt_z (pos 0) z) refl refl k h
applications_have_sorts g vs (minus integer) (more (numeral integer z) none) k h = minus_has_sort g vs integer z (lt_z (pos 0) z) refl refl k h
applications_have_sorts g vs f ts k h = (k, h, refl, refl)

mutual
  pub putting_in_keeps_sorts : PuttingInKeepsSorts
  putting_in_keeps_sorts g vs us e h (variable v) s i = h v s i
  putting_in_keeps_sorts g vs us e h (numeral a z) s i = i
  putting_in_keeps_sorts g vs us e h (unknown d k) s i = i
  putting_in_keeps_sorts g vs us e h (application f ts) s i = subst (λ r. HasSort g us (apply f (put_all e ts)) r) i.2 (applications_have_sorts g us f (put_all e ts) i.0 (putting_all_in_keeps_sorts g vs us e h ts (argument_sorts g f) i.1))

  pub putting_all_in_keeps_sorts : (g : Data) (vs us : List Sort) (e : ℕ → Term) → ((v : ℕ) (s : Sort) → Declares vs v s → HasSort g us (e v) s) → (ts : Terms) (ss : List Sort) → HaveSorts g vs ts ss → HaveSorts g us (put_all e ts) ss
  putting_all_in_keeps_sorts g vs us e h none [] i = tt
  putting_all_in_keeps_sorts g vs us e h none (s ∷ ss) i = absurd i
  putting_all_in_keeps_sorts g vs us e h (more t ts) [] i = absurd i
  putting_all_in_keeps_sorts g vs us e h (more t ts) (s ∷ ss) i = (putting_in_keeps_sorts g vs us e h t s i.0, putting_all_in_keeps_sorts g vs us e h ts ss i.1)

mutual
  pub closed_is_closed : WellSortedOverNothingIsClosed
  closed_is_closed g (variable v) s h = h
  closed_is_closed g (numeral a z) s h = tt
  closed_is_closed g (unknown d k) s h = tt
  closed_is_closed g (application f ts) s h = closed_are_closed g ts (argument_sorts g f) h.1

  closed_are_closed : (g : Data) (ts : Terms) (ss : List Sort) → HaveSorts g [] ts ss → AreClosed ts
  closed_are_closed g none ss h = tt
  closed_are_closed g (more t ts) [] h = absurd h
  closed_are_closed g (more t ts) (s ∷ ss) h = (closed_is_closed g t s h.0, closed_are_closed g ts ss h.1)

-- a term of a sort over some variables that has none of them
mutual
  pub closed_terms_need_no_variables : ClosedTermsNeedNoVariables
  closed_terms_need_no_variables g vs (variable v) s c h = absurd c
  closed_terms_need_no_variables g vs (numeral a z) s c h = h
  closed_terms_need_no_variables g vs (unknown d k) s c h = h
  closed_terms_need_no_variables g vs (application f ts) s c h = (h.0, closed_lists_need_no_variables g vs ts (argument_sorts g f) c h.1, h.2, h.3)

  pub closed_lists_need_no_variables : (g : Data) (vs : List Sort) (ts : Terms) (ss : List Sort) → AreClosed ts → HaveSorts g vs ts ss → HaveSorts g [] ts ss
  closed_lists_need_no_variables g vs none [] c h = tt
  closed_lists_need_no_variables g vs none (s ∷ ss) c h = absurd h
  closed_lists_need_no_variables g vs (more t ts) [] c h = absurd h
  closed_lists_need_no_variables g vs (more t ts) (s ∷ ss) c h = (closed_terms_need_no_variables g vs t s c.0 h.0, closed_lists_need_no_variables g vs ts ss c.1 h.1)

mutual
  pub closed_terms_stay : ClosedTermsStay
  closed_terms_stay g e (variable v) s h = absurd h
  closed_terms_stay g e (numeral a z) s h = refl
  closed_terms_stay g e (unknown d k) s h = refl
  closed_terms_stay g e (application f ts) s h = ap (apply f) (closed_all_stay g e ts (argument_sorts g f) h.1) ∙ h.3

  closed_all_stay : (g : Data) (e : ℕ → Term) (ts : Terms) (ss : List Sort) → HaveSorts g [] ts ss → put_all e ts ≡ ts
  closed_all_stay g e none ss h = refl
  closed_all_stay g e (more t ts) [] h = absurd h
  closed_all_stay g e (more t ts) (s ∷ ss) h = ap₂ (λ u us. more u us) (closed_terms_stay g e t s h.0) (closed_all_stay g e ts ss h.1)

mutual
  pub closed_terms_fit : ClosedTermsFitAnywhere
  closed_terms_fit g vs (variable v) s h = absurd h
  closed_terms_fit g vs (numeral a z) s h = h
  closed_terms_fit g vs (unknown d k) s h = h
  closed_terms_fit g vs (application f ts) s h = (h.0, closed_all_fit g vs ts (argument_sorts g f) h.1, h.2, h.3)

  closed_all_fit : (g : Data) (vs : List Sort) (ts : Terms) (ss : List Sort) → HaveSorts g [] ts ss → HaveSorts g vs ts ss
  closed_all_fit g vs none [] h = tt
  closed_all_fit g vs none (s ∷ ss) h = absurd h
  closed_all_fit g vs (more t ts) [] h = absurd h
  closed_all_fit g vs (more t ts) (s ∷ ss) h = (closed_terms_fit g vs t s h.0, closed_all_fit g vs ts ss h.1)

-- ---- the variables of a sorted term have sorts, one each
pub one_sort : (vs : List Sort) (v : ℕ) (a b : Sort) → Declares vs v a → Declares vs v b → a ≡ b
one_sort [] v a b d e = absurd d
one_sort (s ∷ vs) zero a b d e = sym d ∙ e
one_sort (s ∷ vs) (suc v) a b d e = one_sort vs v a b d e

mutual
  pub variable_declared : (g : Data) (vs : List Sort) (t : Term) (s : Sort) → HasSort g vs t s → (v : ℕ) → Contains (variables_of t) v → (a : Sort) × Declares vs v a
  variable_declared g vs (variable w) s h v (zero, l, e) = (s, subst (λ x. Declares vs x s) e h)
  variable_declared g vs (variable w) s h v (suc k, l, e) = absurd (omega (arith, l))
  variable_declared g vs (numeral a z) s h v c = absurd (contains_nothing v c)
  variable_declared g vs (unknown d k) s h v c = absurd (contains_nothing v c)
  variable_declared g vs (application f ts) s h v c = variables_declared g vs ts (argument_sorts g f) h.1 v c

  variables_declared : (g : Data) (vs : List Sort) (ts : Terms) (ss : List Sort) → HaveSorts g vs ts ss → (v : ℕ) → Contains (variables_of_all ts) v → (a : Sort) × Declares vs v a
  variables_declared g vs none ss h v c = absurd (contains_nothing v c)
  variables_declared g vs (more t ts) [] h v c = absurd h
  variables_declared g vs (more t ts) (s ∷ ss) h v c = elim (Contains-append_cases (variables_of t) (variables_of_all ts) v c) [
    | inl m ↦ variable_declared g vs t s h.0 v m
    | inr m ↦ variables_declared g vs ts ss h.1 v m
  ]
