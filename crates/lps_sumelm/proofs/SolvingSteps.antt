-- One step: a sum that a part of the condition gives.
use Rattle.std.proofs.Common.{◌≡◌, ℕ, Bool, true, false, List, [], ◌∷◌, ◌++◌, map, refl, sym, ap, ◌∙◌, subst, cond, if◌then◌else◌, ⊎_elim, Option, Some, None}
use Rattle.std.specs.Prelude.{Contains}
use Rattle.std.specs.List.{AllByRecursion}
use Rattle.std.proofs.lemmas.Bool.Decides.{eqb_tells}
use Rattle.std.proofs.lemmas.List.Elements.{Contains-append_cases, Contains-append_left, Contains-append_right}
use Rattle.data_theory.specs.Terms.{Sort, boolean, Term, Terms, conjunction, variable, numeral, unknown, application, none, more, put, variables_of, variables_of_all}
use Rattle.data_theory.specs.Declarations.{Data, Declares, HasSort}
use Rattle.data_theory.specs.Equations.{equals}
use Rattle.data_theory.specs.Provable.{reflexive, symmetric, transitive, reflected}
use Rattle.data_theory.specs.Environments.{Environment, Binding, term_in, IsOver, AreOver, AreDistinct}
use Rattle.data_theory.proofs.BooleanLemmas.{conjunction_true}
use Rattle.data_theory.proofs.EqualityLemmas.{equals_of_equal, put_equal}
use Rattle.data_theory.proofs.EnvironmentLemmas.{agreeing_give_the_same_term, putting_in_keeps_sorts, putting_in_twice}
use Rattle.process_terms.specs.Theories.{Theory, Equal, Equals, no_terms, more_terms, IsTrue, AllTrue, none_left, true_and_more, IsOfSort, AreOfSorts}
use Rattle.process_terms.specs.Labels.{Label, put_label, equal_args, AgreeInOrder, both_silent, next_agree}
use Rattle.process_terms.specs.Processes.{Bound}
use Rattle.process_terms.proofs.AgreeingLabels.{agree_refl, equals_refl}
use Rattle.bisim_laws.specs.LinearProcesses.{Summand, variables, sorts, reading, put_next, NextEquals, both_without, both_with, IsSummand, SummandIsSorted, AreDeclared, AreBound, is_true}
use Rattle.bisim_laws.proofs.Firing.{contains_none, contains_first, contains_later, contains_cases, reading_same, read_now, read_later}
use Rattle.lps_core.specs.Conditions.{parts, without_true, AreConditionsOnce}
use Rattle.lps_core.proofs.Chains.{true_alone, joined_true, joined_sorted, joined_over}
use Rattle.lps_core.proofs.Environments.{put_through, label_through, next_through}
use Rattle.lps_core.proofs.OverVariables.{put_over, label_over, next_over_put, ArePutOver}
use Rattle.lps_core.proofs.SortedTerms.{label_sorted, next_sorted_put, one_sort, HaveTheirSorts, HaveTerms, closed_instance, bound_have_terms, read_bound, both_have_terms}
use Rattle.lps_sumelm.specs.Solutions.{Gives, on_the_left, on_the_right}
use Rattle.lps_sumelm.specs.Solving.{without, solve, conditions_of}
use Rattle.lps_sumelm.specs.SolvingLaws.{IsAnswered, AnswerEachOther, StepsKeepTheShape, StepsKeepTheSorts, StepsAnswer}
use Rattle.lps_sumelm.proofs.SolvableParts.{IsFound, first_is_found, taken_apart, put_together}

-- ---- what holds of all parts
all_mapped : (P Q : Term → Type 0) (f : Term → Term) → ((c : Term) → P c → Q (f c)) → (cs : List Term) → AllByRecursion P cs → AllByRecursion Q (map f cs)
all_mapped P Q f w [] h = tt
all_mapped P Q f w (c ∷ cs) h = (w c h.0, all_mapped P Q f w cs h.1)

-- the parts but for `true`
fewer_have : (P : Term → Type 0) (cs : List Term) → AllByRecursion P cs → AllByRecursion P (without_true cs)
fewer_have P [] h = tt
fewer_have P (c ∷ cs) h = elim (is_true c) as (λ b. AllByRecursion P (if b then without_true cs else c ∷ without_true cs)) [ true ↦ fewer_have P cs h.1 | false ↦ (h.0, fewer_have P cs h.1) ]

all_true : (th : Theory) (d : ℕ → Term) (cs : List Term) → AllByRecursion (λ c. IsTrue th (put d c)) cs → AllTrue th (map (put d) cs)
all_true th d [] h = none_left
all_true th d (c ∷ cs) h = true_and_more h.0 (all_true th d cs h.1)

true_all : (th : Theory) (d : ℕ → Term) (cs : List Term) → AllTrue th (map (put d) cs) → AllByRecursion (λ c. IsTrue th (put d c)) cs
true_all th d [] h = tt
true_all th d (c ∷ cs) (true_and_more h k) = (h, true_all th d cs k)

parts_have : (P : Term → Type 0) → ((x y : Term) → P (application conjunction (more x (more y none))) → P x × P y) → (c : Term) → P c → AllByRecursion P (parts c)
parts_have P down (application conjunction (more x (more y none))) h = let k = down x y h in (k.0, parts_have P down y k.1)
parts_have P down c h = (h, tt)

module _ (th : Theory) (d : ℕ → Term) where
  parts_true : (c : Term) → HasSort th.declared [] (put d c) boolean → IsTrue th (put d c) → AllByRecursion (λ c. IsTrue th (put d c)) (parts c)
  parts_true (application conjunction (more x (more y none))) s h = let k = (conjunction_true th.declared th.equations (put d x) (put d y) s.1.0 s.1.1.0).0 h in (k.0, parts_true y s.1.1.0 k.1)
  parts_true c s h = (h, tt)

  true_parts : (c : Term) → HasSort th.declared [] (put d c) boolean → AllByRecursion (λ c. IsTrue th (put d c)) (parts c) → IsTrue th (put d c)
  true_parts (application conjunction (more x (more y none))) s h = (conjunction_true th.declared th.equations (put d x) (put d y) s.1.0 s.1.1.0).1 (h.0, true_parts y s.1.1.0 h.1)
  true_parts c s h = h.0

  true_again : (cs : List Term) → AllByRecursion (λ c. IsTrue th (put d c)) (without_true cs) → AllByRecursion (λ c. IsTrue th (put d c)) cs
  true_again [] h = tt
  true_again (c ∷ cs) h = by_test (is_true c) refl h (λ k. true_again cs k)
    where
      by_test : (b : Bool) → is_true c ≡ b → AllByRecursion (λ c. IsTrue th (put d c)) (if b then without_true cs else c ∷ without_true cs) → (AllByRecursion (λ c. IsTrue th (put d c)) (without_true cs) → AllByRecursion (λ c. IsTrue th (put d c)) cs)
          → AllByRecursion (λ c. IsTrue th (put d c)) (c ∷ cs)
      by_test true e h again = (subst (λ z. IsTrue th (put d z)) (sym (true_alone c e)) reflexive, again h)
      by_test false e h again = (h.0, again h.1)

-- ---- the equality
given_over : (xs : List ℕ) {p : Term} {v : ℕ} {t : Term} → Gives p v t → IsOver xs p → IsOver xs t
given_over xs on_the_left h = h.1.0
given_over xs on_the_right h = h.0

given_sorted : (g : Data) (vs : List Sort) {p : Term} {v : ℕ} {t : Term} → Gives p v t → HasSort g vs p boolean → (s : Sort) × (Declares vs v s × HasSort g vs t s)
given_sorted g vs (on_the_left {s = s}) h = (s, (h.1.0, h.1.1.0))
given_sorted g vs (on_the_right {s = s}) h = (s, (h.1.1.0, h.1.0))

given_equal : (th : Theory) (d : ℕ → Term) {p : Term} {v : ℕ} {t : Term} → Gives p v t → IsTrue th (put d p) → Equal th (d v) (put d t)
given_equal th d on_the_left h = reflected h
given_equal th d on_the_right h = symmetric (reflected h)

given_true : (th : Theory) (vs : List Sort) (d : ℕ → Term) {p : Term} {v : ℕ} {t : Term} → Gives p v t → HasSort th.declared vs p boolean → ((s : Sort) → Declares vs v s → HasSort th.declared [] (d v) s) → put d t ≡ d v → IsTrue th (put d p)
given_true th vs d (on_the_left {s = s} {v = v}) h f e = subst (λ z. IsTrue th (equals s (d v) z)) (sym e) (equals_of_equal th.declared th.equations s (d v) (d v) h.0 (f s h.1.0) reflexive)
given_true th vs d (on_the_right {s = s} {v = v}) h f e = subst (λ z. IsTrue th (equals s z (d v))) (sym e) (equals_of_equal th.declared th.equations s (d v) (d v) h.0 (f s h.1.1.0) reflexive)

-- ---- variables
pub without_among : (v : ℕ) (xs : List Bound) (y : Bound) → Contains (without v xs) y → Contains xs y
without_among v [] y i = absurd (contains_none y i)
without_among v (x ∷ xs) y i = ⊎_elim
    (λ k. contains_later x y xs (without_among v xs y (subst (λ b. Contains (cond b (without v xs) (x ∷ without v xs)) y) k.0 i)))
    (λ k. ⊎_elim (λ q. subst (λ z. Contains (x ∷ xs) z) q (contains_first x xs)) (λ j. contains_later x y xs (without_among v xs y j)) (contains_cases x y (without v xs) (subst (λ b. Contains (cond b (without v xs) (x ∷ without v xs)) y) k.0 i)))
    (eqb_tells x.var v)

others_stay : (v : ℕ) (xs : List Bound) (y : Bound) → Contains xs y → (y.var ≡ v → ⊥) → Contains (without v xs) y
others_stay v [] y i n = absurd (contains_none y i)
others_stay v (x ∷ xs) y i n = ⊎_elim
    (λ k. subst (λ b. Contains (cond b (without v xs) (x ∷ without v xs)) y) (sym k.0) (⊎_elim (λ q. absurd (n (ap (λ z. z.var) (sym q) ∙ k.1))) (λ j. others_stay v xs y j n) (contains_cases x y xs i)))
    (λ k. subst (λ b. Contains (cond b (without v xs) (x ∷ without v xs)) y) (sym k.0) (⊎_elim (λ q. subst (λ z. Contains (x ∷ without v xs) z) q (contains_first x (without v xs))) (λ j. contains_later x y (without v xs) (others_stay v xs y j n)) (contains_cases x y xs i)))
    (eqb_tells x.var v)

number_without : (v : ℕ) (xs : List Bound) (u : ℕ) → Contains (variables (without v xs)) u → Contains (variables xs) u
number_without v [] u i = absurd (contains_none u i)
number_without v (x ∷ xs) u i = ⊎_elim
    (λ k. contains_later x.var u (variables xs) (number_without v xs u (subst (λ b. Contains (variables (cond b (without v xs) (x ∷ without v xs))) u) k.0 i)))
    (λ k. ⊎_elim (λ q. subst (λ z. Contains (x.var ∷ variables xs) z) q (contains_first x.var (variables xs))) (λ j. contains_later x.var u (variables xs) (number_without v xs u j)) (contains_cases x.var u (variables (without v xs)) (subst (λ b. Contains (variables (cond b (without v xs) (x ∷ without v xs))) u) k.0 i)))
    (eqb_tells x.var v)

others_number : (v : ℕ) (xs : List Bound) (u : ℕ) → Contains (variables xs) u → (u ≡ v → ⊥) → Contains (variables (without v xs)) u
others_number v [] u i n = absurd (contains_none u i)
others_number v (x ∷ xs) u i n = ⊎_elim
    (λ k. subst (λ b. Contains (variables (cond b (without v xs) (x ∷ without v xs))) u) (sym k.0) (⊎_elim (λ q. absurd (n (sym q ∙ k.1))) (λ j. others_number v xs u j n) (contains_cases x.var u (variables xs) i)))
    (λ k. subst (λ b. Contains (variables (cond b (without v xs) (x ∷ without v xs))) u) (sym k.0) (⊎_elim (λ q. subst (λ z. Contains (x.var ∷ variables (without v xs)) z) q (contains_first x.var (variables (without v xs)))) (λ j. contains_later x.var u (variables (without v xs)) (others_number v xs u j n)) (contains_cases x.var u (variables xs) i)))
    (eqb_tells x.var v)

without_distinct : (v : ℕ) (xs : List Bound) → AreDistinct (variables xs) → AreDistinct (variables (without v xs))
without_distinct v [] d = tt
without_distinct v (x ∷ xs) d = ⊎_elim
    (λ k. subst (λ b. AreDistinct (variables (cond b (without v xs) (x ∷ without v xs)))) (sym k.0) (without_distinct v xs d.1))
    (λ k. subst (λ b. AreDistinct (variables (cond b (without v xs) (x ∷ without v xs)))) (sym k.0) (λ i. d.0 (number_without v xs x.var i), without_distinct v xs d.1))
    (eqb_tells x.var v)

-- a term over other variables that has all of its own there
mutual
  pub over_others : (xs ys : List ℕ) (t : Term) → IsOver xs t → ((u : ℕ) → Contains (variables_of t) u → Contains xs u → Contains ys u) → IsOver ys t
  over_others xs ys (variable v) i w = w v (contains_first v []) i
  over_others xs ys (numeral a z) i w = tt
  over_others xs ys (unknown d k) i w = tt
  over_others xs ys (application f ts) i w = all_over_others xs ys ts i w

  pub all_over_others : (xs ys : List ℕ) (ts : Terms) → AreOver xs ts → ((u : ℕ) → Contains (variables_of_all ts) u → Contains xs u → Contains ys u) → AreOver ys ts
  all_over_others xs ys none i w = tt
  all_over_others xs ys (more t ts) i w = (
    over_others xs ys t i.0 (λ u j. w u (Contains-append_left (variables_of t) (variables_of_all ts) u j)),
    all_over_others xs ys ts i.1 (λ u j. w u (Contains-append_right (variables_of t) (variables_of_all ts) u j)),
  )

mutual
  pub over_own : (t : Term) → IsOver (variables_of t) t
  over_own (variable v) = contains_first v []
  over_own (numeral a z) = tt
  over_own (unknown d k) = tt
  over_own (application f ts) = all_over_own ts

  pub all_over_own : (ts : Terms) → AreOver (variables_of_all ts) ts
  all_over_own none = tt
  all_over_own (more t ts) = (
    over_others (variables_of t) (variables_of t ++ variables_of_all ts) t (over_own t) (λ u j k. Contains-append_left (variables_of t) (variables_of_all ts) u k),
    all_over_others (variables_of_all ts) (variables_of t ++ variables_of_all ts) ts (all_over_own ts) (λ u j k. Contains-append_right (variables_of t) (variables_of_all ts) u k),
  )

-- ---- what is put in
module _ (params : List Bound) (s : Summand) (b : Binding) (rest : List Term) (is : IsSummand params s) (found : IsFound (variables s.sums) (conditions_of s) b rest) where
  abbrev ps : List ℕ
  ps = variables params

  abbrev xs : List ℕ
  xs = variables s.sums ++ ps

  abbrev ys : List ℕ
  ys = variables (without b.var s.sums) ++ ps

  abbrev r : Environment
  r = b ∷ []

  not_param : Contains ps b.var → ⊥
  not_param i = is.apart b.var found.solvable.among i

  left_over : (u : ℕ) → Contains xs u → (u ≡ b.var → ⊥) → Contains ys u
  left_over u i n = ⊎_elim
      (λ j. Contains-append_left (variables (without b.var s.sums)) ps u (others_number b.var s.sums u j n))
      (λ j. Contains-append_right (variables (without b.var s.sums)) ps u j)
      (Contains-append_cases (variables s.sums) ps u i)

  parts_over : IsOver xs found.part × AllByRecursion (IsOver xs) rest
  parts_over = taken_apart (IsOver xs) found.taken (fewer_have (IsOver xs) (parts s.condition) (parts_have (IsOver xs) (λ x y h. (h.0, h.1.0)) s.condition is.condition))

  term_over : IsOver ys b.term
  term_over = over_others xs ys b.term (given_over xs found.solvable.gives parts_over.0) (λ u j i. left_over u i (λ q. found.solvable.absent (subst (λ z. Contains (variables_of b.term) z) q j)))

  put_in_over : ArePutOver xs ys (term_in r)
  put_in_over u i = ⊎_elim
      (λ k. subst (λ c. IsOver ys (cond c b.term (variable u))) (sym k.0) term_over)
      (λ k. subst (λ c. IsOver ys (cond c b.term (variable u))) (sym k.0) (left_over u i (λ q. k.1 (sym q))))
      (eqb_tells b.var u)

  rest_over : AllByRecursion (IsOver ys) (map (put (term_in r)) rest)
  rest_over = all_mapped (IsOver xs) (IsOver ys) (put (term_in r)) (λ c h. put_over xs ys (term_in r) put_in_over c h) rest parts_over.1

  pub solve_shape : IsSummand params (solve b rest s)
  solve_shape = record {
    condition = joined_over ys (map (put (term_in r)) rest) rest_over;
    label = label_over xs ys r put_in_over s.label is.label;
    next = next_over_put xs ys params r put_in_over s.next is.next;
    apart = λ v i. is.apart v (number_without b.var s.sums v i);
    distinct = without_distinct b.var s.sums is.distinct;
  }

module _ (g : Data) (vs : List Sort) (params : List Bound) (s : Summand) (b : Binding) (rest : List Term) (sorted : SummandIsSorted g vs params s) (found : IsFound (variables s.sums) (conditions_of s) b rest) where
  abbrev rs : Environment
  rs = b ∷ []

  parts_sorted : HasSort g vs found.part boolean × AllByRecursion (λ c. HasSort g vs c boolean) rest
  parts_sorted = taken_apart (λ c. HasSort g vs c boolean) found.taken
      (fewer_have (λ c. HasSort g vs c boolean) (parts s.condition) (parts_have (λ c. HasSort g vs c boolean) (λ x y h. (h.1.0, h.1.1.0)) s.condition sorted.condition))

  put_in_sorted : HaveTheirSorts g vs vs (term_in rs)
  put_in_sorted u a h = ⊎_elim
      (λ k. subst (λ c. HasSort g vs (cond c b.term (variable u)) a) (sym k.0)
      (let w = given_sorted g vs found.solvable.gives parts_sorted.0 in subst (λ z. HasSort g vs b.term z) (one_sort vs u w.0 a (subst (λ z. Declares vs z w.0) k.1 w.1.0) h) w.1.1))
      (λ k. subst (λ c. HasSort g vs (cond c b.term (variable u)) a) (sym k.0) h)
      (eqb_tells b.var u)

  rest_sorted : AllByRecursion (λ c. HasSort g vs c boolean) (map (put (term_in rs)) rest)
  rest_sorted = all_mapped (λ c. HasSort g vs c boolean) (λ c. HasSort g vs c boolean) (put (term_in rs)) (λ c h. putting_in_keeps_sorts g vs vs (term_in rs) put_in_sorted c boolean h) rest parts_sorted.1

  pub solve_sorts : SummandIsSorted g vs params (solve b rest s)
  solve_sorts = record {
    sums = λ x i. sorted.sums x (without_among b.var s.sums x i);
    sum_sorts = λ x i. sorted.sum_sorts x (without_among b.var s.sums x i);
    condition = joined_sorted g vs (map (put (term_in rs)) rest) rest_sorted;
    label = label_sorted g vs vs rs put_in_sorted s.label sorted.label;
    next = next_sorted_put g vs vs (sorts params) rs put_in_sorted s.next sorted.next;
  }

-- ---- provably equal terms put in
module _ (th : Theory) (r e : Environment) (h : (v : ℕ) → Equal th (put (term_in e) (term_in r v)) (term_in e v)) where
  term_equal_in : (t : Term) → Equal th (put (term_in e) t) (put (term_in e) (put (term_in r) t))
  term_equal_in t = symmetric (subst (λ z. Equal th z (put (term_in e) t)) (sym (putting_in_twice (term_in r) (term_in e) t)) (put_equal th.declared th.equations (λ v. put (term_in e) (term_in r v)) (term_in e) h t))

  terms_equal_in : (ts : List Term) → Equals th (map (put (term_in e)) ts) (map (put (term_in e)) (map (put (term_in r)) ts))
  terms_equal_in [] = no_terms
  terms_equal_in (t ∷ ts) = more_terms (term_equal_in t) (terms_equal_in ts)

  label_equal_in : (m : Label) → AgreeInOrder th (put_label e m) (put_label e (put_label r m))
  label_equal_in [] = both_silent
  label_equal_in (a ∷ m) = next_agree (equal_args (terms_equal_in a.args)) (label_equal_in m)

  next_equal_in : (next : Option (List Term)) → NextEquals th (put_next e next) (put_next e (put_next r next))
  next_equal_in None = both_without
  next_equal_in (Some ts) = both_with (terms_equal_in ts)

pub same_next : (th : Theory) (o : Option (List Term)) → NextEquals th o o
same_next th None = both_without
same_next th (Some ts) = both_with (equals_refl th ts)

conditions_closed : (g : Data) (vs : List Sort) (xs : List ℕ) (e : ℕ → Term) → HaveTerms g vs xs e → (cs : List Term) → AllByRecursion (IsOver xs) cs → AllByRecursion (λ c. HasSort g vs c boolean) cs → AreConditionsOnce g e cs
conditions_closed g vs zs e f [] h k = tt
conditions_closed g vs zs e f (c ∷ cs) h k = (closed_instance g vs zs e f c boolean h.0 k.0, conditions_closed g vs zs e f cs h.1 k.1)

pub terms_for : (th : Theory) (vs : List Sort) (params sums : List Bound) → AreDeclared vs params → AreDeclared vs sums → (e : Environment) → AreBound th sums e → AreOfSorts th (sorts params) (reading e (variables params)) → HaveTerms th.declared vs (variables sums ++ variables params) (term_in e)
terms_for th vs params sums declared own e b a = both_have_terms th.declared vs (variables sums) (variables params) (term_in e) (bound_have_terms th vs sums e own b) (bound_have_terms th vs params e declared (read_bound th params e a))

module _ (th : Theory) (vs : List Sort) (params : List Bound) (s : Summand) (b : Binding) (rest : List Term) (is : IsSummand params s) (sorted : SummandIsSorted th.declared vs params s) (declared : AreDeclared vs params) (found : IsFound (variables s.sums) (conditions_of s) b rest) where
  abbrev qs : List ℕ
  qs = variables params

  abbrev q : Environment
  q = b ∷ []

  abbrev T : Summand
  T = solve b rest s

  all_terms : (e : Environment) → AreBound th s.sums e → AreOfSorts th (sorts params) (reading e qs) → HaveTerms th.declared vs (variables s.sums ++ qs) (term_in e)
  all_terms e bound a = terms_for th vs params s.sums declared sorted.sums e bound a

  other_terms : (e : Environment) → AreBound th T.sums e → AreOfSorts th (sorts params) (reading e qs) → HaveTerms th.declared vs (variables T.sums ++ qs) (term_in e)
  other_terms e bound a = terms_for th vs params T.sums declared (λ x i. sorted.sums x (without_among b.var s.sums x i)) e bound a

  -- the parts, in an environment for the summand
  given_parts : (e : Environment) → AreBound th s.sums e → AreOfSorts th (sorts params) (reading e qs) → IsTrue th (put (term_in e) s.condition) → AllByRecursion (λ c. IsTrue th (put (term_in e) c)) (conditions_of s)
  given_parts e bound a h = fewer_have (λ c. IsTrue th (put (term_in e) c)) (parts s.condition)
      (parts_true th (term_in e) s.condition (closed_instance th.declared vs (variables s.sums ++ qs) (term_in e) (all_terms e bound a) s.condition boolean is.condition sorted.condition) h)

  rest_closed : (e : Environment) → AreBound th T.sums e → AreOfSorts th (sorts params) (reading e qs) → AreConditionsOnce th.declared (term_in e) (map (put (term_in q)) rest)
  rest_closed e bound a = conditions_closed th.declared vs (variables T.sums ++ qs) (term_in e) (other_terms e bound a) (map (put (term_in q)) rest) (rest_over params s b rest is found) (rest_sorted th.declared vs params s b rest sorted found)

  forth : IsAnswered th params s T
  forth e bound a h =
      let each = taken_apart (λ c. IsTrue th (put (term_in e) c)) found.taken (given_parts e bound a h) in
      let equal : (v : ℕ) → Equal th (put (term_in e) (term_in q v)) (term_in e v) = λ v. ⊎_elim
      (λ k. subst (λ z. Equal th (put (term_in e) (cond z b.term (variable v))) (term_in e v)) (sym k.0) (subst (λ z. Equal th (put (term_in e) b.term) (term_in e z)) k.1 (symmetric (given_equal th (term_in e) found.solvable.gives each.0))))
      (λ k. subst (λ z. Equal th (put (term_in e) (cond z b.term (variable v))) (term_in e v)) (sym k.0) reflexive)
      (eqb_tells b.var v) in
      let fewer_bound : AreBound th T.sums e = λ x i. bound x (without_among b.var s.sums x i) in
      record {
        environment = e;
        reads = refl;
        bound = fewer_bound;
        holds = (joined_true th (term_in e) (map (put (term_in q)) rest) (rest_closed e fewer_bound a)).0
            (all_true th (term_in e) (map (put (term_in q)) rest)
            (all_mapped (λ c. IsTrue th (put (term_in e) c)) (λ c. IsTrue th (put (term_in e) c)) (put (term_in q)) (λ c w. transitive (symmetric (term_equal_in th q e equal c)) w) rest each.1));
        label = label_equal_in th q e equal s.label;
        next = next_equal_in th q e equal s.next;
      }

  back : IsAnswered th params T s
  back e bound a h =
      let u = put (term_in e) b.term in
      let d : Environment = record { var = b.var; term = u } ∷ e in
      let here : term_in d b.var ≡ u = read_now b.var u e in
      let there : (v : ℕ) → (b.var ≡ v → ⊥) → term_in d v ≡ term_in e v = read_later b.var u e in
      let reads : reading d qs ≡ reading e qs = reading_same qs d e (λ v i. there v (λ w. not_param params s b rest is found (subst (λ z. Contains qs z) (sym w) i))) in
      let through : (v : ℕ) → put (term_in e) (term_in q v) ≡ term_in d v = λ v. ⊎_elim
      (λ k. ap (λ z. put (term_in e) (cond z b.term (variable v))) k.0 ∙ sym (ap (λ z. cond z u (term_in e v)) k.0))
      (λ k. ap (λ z. put (term_in e) (cond z b.term (variable v))) k.0 ∙ sym (ap (λ z. cond z u (term_in e v)) k.0))
      (eqb_tells b.var v) in
      let own : put (term_in d) b.term ≡ u = agreeing_give_the_same_term (variables_of b.term) (term_in d) (term_in e) (λ v i. there v (λ w. found.solvable.absent (subst (λ z. Contains (variables_of b.term) z) (sym w) i))) b.term (over_own b.term) in
      let part_sorted = parts_sorted th.declared vs params s b rest sorted found in
      let term_sorted = given_sorted th.declared vs found.solvable.gives part_sorted.0 in
      let term_closed : HasSort th.declared [] u term_sorted.0 =
      closed_instance th.declared vs (variables T.sums ++ qs) (term_in e) (other_terms e bound a) b.term term_sorted.0 (term_over params s b rest is found) term_sorted.1.1 in
      let var_sorted : (c : Sort) → Declares vs b.var c → HasSort th.declared [] (term_in d b.var) c = λ c w. subst (λ z. HasSort th.declared [] z c) (sym here) (subst (λ z. HasSort th.declared [] u z) (one_sort vs b.var term_sorted.0 c term_sorted.1.0 w) term_closed) in
      let all_bound : AreBound th s.sums d = λ x i. ⊎_elim
      (λ k. subst (λ z. HasSort th.declared [] (term_in d z) x.sort) k.1 (var_sorted x.sort (subst (λ z. Declares vs z x.sort) (sym k.1) (sorted.sums x i))))
      (λ k. subst (λ z. IsOfSort th x.sort z) (sym (there x.var k.1)) (bound x (others_stay b.var s.sums x i (λ w. k.1 (sym w)))))
      (eqb_tells b.var x.var) in
      let params_sorted : AreOfSorts th (sorts params) (reading d qs) = subst (λ z. AreOfSorts th (sorts params) z) (sym reads) a in
      let others = true_all th (term_in e) (map (put (term_in q)) rest) ((joined_true th (term_in e) (map (put (term_in q)) rest) (rest_closed e bound a)).1 h) in
      let stay = moved_back d e through rest (parts_over params s b rest is found).1 others in
      let part = given_true th vs (term_in d) found.solvable.gives part_sorted.0 var_sorted (own ∙ sym here) in
      record {
        environment = d;
        reads = reads;
        bound = all_bound;
        holds = true_parts th (term_in d) s.condition (closed_instance th.declared vs (variables s.sums ++ qs) (term_in d) (all_terms d all_bound params_sorted) s.condition boolean is.condition sorted.condition)
            (true_again th (term_in d) (parts s.condition) (put_together (λ c. IsTrue th (put (term_in d) c)) found.taken part stay));
        label = subst (λ z. AgreeInOrder th z (put_label d s.label)) (sym (label_through (variables s.sums ++ qs) q e d (λ v i. through v) s.label is.label)) (agree_refl th (put_label d s.label));
        next = subst (λ z. NextEquals th z (put_next d s.next)) (sym (next_through (variables s.sums ++ qs) params q e d (λ v i. through v) s.next is.next)) (same_next th (put_next d s.next));
      }
    where
      moved_back : (d e : Environment) → ((v : ℕ) → put (term_in e) (term_in q v) ≡ term_in d v) → (cs : List Term) → AllByRecursion (IsOver (variables s.sums ++ qs)) cs → AllByRecursion (λ c. IsTrue th (put (term_in e) c)) (map (put (term_in q)) cs) → AllByRecursion (λ c. IsTrue th (put (term_in d) c)) cs
      moved_back d e w [] o h = tt
      moved_back d e w (c ∷ cs) o h = (subst (λ z. IsTrue th z) (put_through (variables s.sums ++ qs) q e d (λ v i. w v) c o.0) h.0, moved_back d e w cs o.1 h.1)

  pub solve_answers : AnswerEachOther th params s T
  solve_answers = record { forth = forth; back = back }

pub steps_answer : StepsAnswer
steps_answer th vs params s b rest is sorted declared f = solve_answers th vs params s b rest is sorted declared (first_is_found f)

pub steps_keep_the_shape : StepsKeepTheShape
steps_keep_the_shape params s b rest is f = solve_shape params s b rest is (first_is_found f)

pub steps_keep_the_sorts : StepsKeepTheSorts
steps_keep_the_sorts g vs params s b rest sorted f = solve_sorts g vs params s b rest sorted (first_is_found f)
