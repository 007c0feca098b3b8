-- A chain of conditions is true where its parts are.
use Rattle.std.proofs.Common.{◌≡◌, ℕ, List, [], ◌∷◌, ◌++◌, map, Bool, true, false, if◌then◌else◌, refl, sym, subst}
use Rattle.std.specs.List.{AllByRecursion}
use Rattle.data_theory.specs.Terms.{Sort, boolean, Term, truth, conjunction, application, none, more, put}
use Rattle.data_theory.specs.Declarations.{Data, HasSort}
use Rattle.data_theory.specs.Equations.{trueᵗ, !ᵗ◌, ◌∧ᵗ◌}
use Rattle.data_theory.specs.Provable.{reflexive}
use Rattle.data_theory.specs.Environments.{Environment, term_in, IsOver}
use Rattle.data_theory.proofs.BooleanLemmas.{conjunction_true, negation_true}
use Rattle.process_terms.specs.Theories.{Theory, IsTrue, IsFalse, AllTrue, none_left, true_and_more}
use Rattle.process_terms.specs.Communication.{conjunction_of}
use Rattle.bisim_laws.specs.LinearProcesses.{is_true}
use Rattle.lps_core.specs.Conditions.{parts, all_parts, without_true, conjoined, joined, IsCondition, AreConditions, no_conditions, more_conditions, JoinedConditionsAreTrue, JoinedConditionsAreConditions, JoinedConditionsAreSorted, JoinedConditionsAreOver}
use Rattle.lps_core.proofs.SortedTerms.{HaveTerms, closed_instance}

tests_differ : false ≡ true → ⊥
tests_differ e = cc

pub true_alone : (c : Term) → is_true c ≡ true → c ≡ trueᵗ
true_alone (application truth none) e = refl
true_alone _ e = absurd (tests_differ e)

-- ---- what holds of conditions and goes through `&&` both ways
pub record GoesThroughAnd (P : Term → Type 0) : Type 0 where
  pub at_true : P trueᵗ
  pub up : (x y : Term) → P x → P y → P (x ∧ᵗ y)
  pub down : (x y : Term) → P (x ∧ᵗ y) → P x × P y

each_append : (P : Term → Type 0) (xs ys : List Term) → AllByRecursion P xs → AllByRecursion P ys → AllByRecursion P (xs ++ ys)
each_append P [] ys h k = k
each_append P (x ∷ xs) ys h k = (h.0, each_append P xs ys h.1 k)

module _ (P : Term → Type 0) (a : GoesThroughAnd P) where
  parts_are : (c : Term) → P c → AllByRecursion P (parts c)
  parts_are (application conjunction (more x (more y none))) h = let d = a.down x y h in (d.0, parts_are y d.1)
  parts_are c h = (h, tt)

  all_parts_are : (cs : List Term) → AllByRecursion P cs → AllByRecursion P (all_parts cs)
  all_parts_are [] h = tt
  all_parts_are (c ∷ cs) h = each_append P (parts c) (all_parts cs) (parts_are c h.0) (all_parts_are cs h.1)

  fewer_are : (cs : List Term) → AllByRecursion P cs → AllByRecursion P (without_true cs)
  fewer_are [] h = tt
  fewer_are (c ∷ cs) h = elim (is_true c) as (λ b. AllByRecursion P (if b then without_true cs else c ∷ without_true cs)) [ true ↦ fewer_are cs h.1 | false ↦ (h.0, fewer_are cs h.1) ]

  chain_is : (cs : List Term) → AllByRecursion P cs → P (conjunction_of cs)
  chain_is [] h = a.at_true
  chain_is (c ∷ []) h = h.0
  chain_is (c ∷ d ∷ cs) h = a.up c (conjunction_of (d ∷ cs)) h.0 (chain_is (d ∷ cs) h.1)

  conjoined_is : (cs : List Term) → AllByRecursion P cs → P (conjoined cs)
  conjoined_is cs h = chain_is (without_true cs) (fewer_are cs h)

sorts_through : (g : Data) (vs : List Sort) → GoesThroughAnd (λ c. HasSort g vs c boolean)
sorts_through g vs = record { at_true = (tt, tt, refl, refl); up = λ x y h k. (tt, (h, (k, tt)), refl, refl); down = λ x y h. (h.1.0, h.1.1.0) }

over_through : (xs : List ℕ) → GoesThroughAnd (IsOver xs)
over_through xs = record { at_true = tt; up = λ x y h k. (h, (k, tt)); down = λ x y h. (h.0, h.1.0) }

put_sorts_through : (g : Data) (e : ℕ → Term) → GoesThroughAnd (λ c. HasSort g [] (put e c) boolean)
put_sorts_through g e = record { at_true = (tt, tt, refl, refl); up = λ x y h k. (tt, (h, (k, tt)), refl, refl); down = λ x y h. (h.1.0, h.1.1.0) }

pub joined_sorted : JoinedConditionsAreSorted
joined_sorted g vs cs h = let f = sorts_through g vs in conjoined_is (λ c. HasSort g vs c boolean) f (all_parts cs) (all_parts_are (λ c. HasSort g vs c boolean) f cs h)

pub joined_over : JoinedConditionsAreOver
joined_over xs cs h = conjoined_is (IsOver xs) (over_through xs) (all_parts cs) (all_parts_are (IsOver xs) (over_through xs) cs h)

-- ---- lists of true terms
pub all_true_append : (th : Theory) (f : Term → Term) (ts us : List Term) → AllTrue th (map f ts) → AllTrue th (map f us) → AllTrue th (map f (ts ++ us))
all_true_append th f [] us h k = k
all_true_append th f (t ∷ ts) us (true_and_more h i) k = true_and_more h (all_true_append th f ts us i k)

pub all_true_split : (th : Theory) (f : Term → Term) (ts us : List Term) → AllTrue th (map f (ts ++ us)) → AllTrue th (map f ts) × AllTrue th (map f us)
all_true_split th f [] us h = (none_left, h)
all_true_split th f (t ∷ ts) us (true_and_more h i) = let k = all_true_split th f ts us i in (true_and_more h k.0, k.1)

pub first_true : (th : Theory) {t : Term} {ts : List Term} → AllTrue th (t ∷ ts) → IsTrue th t
first_true th (true_and_more h k) = h

pub rest_true : (th : Theory) {t : Term} {ts : List Term} → AllTrue th (t ∷ ts) → AllTrue th ts
rest_true th (true_and_more h k) = k

-- ---- truth, for conditions that are closed once terms are put in
module _ (th : Theory) (e : ℕ → Term) (P : Term → Type 0) (a : GoesThroughAnd P) (closes : (t : Term) → P t → HasSort th.declared [] (put e t) boolean) where
  abbrev Holds : Term → Type 0
  Holds t = IsTrue th (put e t)

  abbrev AllHold : List Term → Type 0
  AllHold ts = AllTrue th (map (put e) ts)

  both_are_true : (t u : Term) → P t → P u → Holds t → Holds u → Holds (t ∧ᵗ u)
  both_are_true t u c d h k = (conjunction_true th.declared th.equations (put e t) (put e u) (closes t c) (closes u d)).1 (h, k)

  true_are_both : (t u : Term) → P t → P u → Holds (t ∧ᵗ u) → Holds t × Holds u
  true_are_both t u c d h = (conjunction_true th.declared th.equations (put e t) (put e u) (closes t c) (closes u d)).0 h

  chain_is_true : (ts : List Term) → AllByRecursion P ts → AllHold ts → Holds (conjunction_of ts)
  chain_is_true [] k h = reflexive
  chain_is_true (t ∷ []) k (true_and_more h i) = h
  chain_is_true (t ∷ u ∷ us) k (true_and_more h i) = both_are_true t (conjunction_of (u ∷ us)) k.0 (chain_is P a (u ∷ us) k.1) h (chain_is_true (u ∷ us) k.1 i)

  true_is_chain : (ts : List Term) → AllByRecursion P ts → Holds (conjunction_of ts) → AllHold ts
  true_is_chain [] k h = none_left
  true_is_chain (t ∷ []) k h = true_and_more h none_left
  true_is_chain (t ∷ u ∷ us) k h =
      let r = true_are_both t (conjunction_of (u ∷ us)) k.0 (chain_is P a (u ∷ us) k.1) h in
      true_and_more r.0 (true_is_chain (u ∷ us) k.1 r.1)

  fewer_are_true : (ts : List Term) → AllHold ts → AllHold (without_true ts)
  fewer_are_true [] h = none_left
  fewer_are_true (t ∷ ts) (true_and_more h k) =
      elim (is_true t) as (λ b. AllHold (if b then without_true ts else t ∷ without_true ts)) [ true ↦ fewer_are_true ts k | false ↦ true_and_more h (fewer_are_true ts k) ]

  with_true_again : (t : Term) (ts : List Term) (b : Bool) → is_true t ≡ b → AllHold (if b then without_true ts else t ∷ without_true ts) → (AllHold (without_true ts) → AllHold ts) → AllHold (t ∷ ts)
  with_true_again t ts true q k f = true_and_more (subst (λ z. Holds z) (sym (true_alone t q)) reflexive) (f k)
  with_true_again t ts false q (true_and_more h k) f = true_and_more h (f k)

  all_are_true : (ts : List Term) → AllHold (without_true ts) → AllHold ts
  all_are_true [] h = none_left
  all_are_true (t ∷ ts) h = with_true_again t ts (is_true t) refl h (λ k. all_are_true ts k)

  conjoined_is_true : (ts : List Term) → AllByRecursion P ts → AllHold ts → Holds (conjoined ts)
  conjoined_is_true ts k h = chain_is_true (without_true ts) (fewer_are P a ts k) (fewer_are_true ts h)

  true_is_conjoined : (ts : List Term) → AllByRecursion P ts → Holds (conjoined ts) → AllHold ts
  true_is_conjoined ts k h = all_are_true ts (true_is_chain (without_true ts) (fewer_are P a ts k) h)

  parts_are_true : (t : Term) → P t → Holds t → AllHold (parts t)
  parts_are_true (application conjunction (more x (more y none))) c h =
      let d = a.down x y c in
      let r = true_are_both x y d.0 d.1 h in
      true_and_more r.0 (parts_are_true y d.1 r.1)
  parts_are_true _ c h = true_and_more h none_left

  true_are_parts : (t : Term) → P t → AllHold (parts t) → Holds t
  true_are_parts (application conjunction (more x (more y none))) c h =
      let d = a.down x y c in
      both_are_true x y d.0 d.1 (first_true th h) (true_are_parts y d.1 (rest_true th h))
  true_are_parts _ c h = first_true th h

  all_parts_are_true : (cs : List Term) → AllByRecursion P cs → AllHold cs → AllHold (all_parts cs)
  all_parts_are_true [] s h = none_left
  all_parts_are_true (c ∷ cs) s (true_and_more h k) = all_true_append th (put e) (parts c) (all_parts cs) (parts_are_true c s.0 h) (all_parts_are_true cs s.1 k)

  true_are_all_parts : (cs : List Term) → AllByRecursion P cs → AllHold (all_parts cs) → AllHold cs
  true_are_all_parts [] s h = none_left
  true_are_all_parts (c ∷ cs) s h = let k = all_true_split th (put e) (parts c) (all_parts cs) h in true_and_more (true_are_parts c s.0 k.0) (true_are_all_parts cs s.1 k.1)

pub joined_true : JoinedConditionsAreTrue
joined_true th e cs s =
    let P : Term → Type 0 = λ c. HasSort th.declared [] (put e c) boolean in
    let f = put_sorts_through th.declared e in
    let all_sorted = all_parts_are P f cs s in (
      λ h. conjoined_is_true th e P f (λ t c. c) (all_parts cs) all_sorted (all_parts_are_true th e P f (λ t c. c) cs s h),
      λ h. true_are_all_parts th e P f (λ t c. c) cs s (true_is_conjoined th e P f (λ t c. c) (all_parts cs) all_sorted h),
    )

-- ---- conditions over variables with sorts
module _ (g : Data) (vs : List Sort) (xs : List ℕ) where
  pub truth_condition : IsCondition g vs xs trueᵗ
  truth_condition = record { over = tt; sorted = (tt, tt, refl, refl) }

  pub both_condition : (x y : Term) → IsCondition g vs xs x → IsCondition g vs xs y → IsCondition g vs xs (x ∧ᵗ y)
  both_condition x y c d = record { over = (c.over, (d.over, tt)); sorted = (tt, (c.sorted, (d.sorted, tt)), refl, refl) }

  pub not_condition : (x : Term) → IsCondition g vs xs x → IsCondition g vs xs (!ᵗ x)
  not_condition x c = record { over = (c.over, tt); sorted = (tt, (c.sorted, tt), refl, refl) }

  conditions_through : GoesThroughAnd (IsCondition g vs xs)
  conditions_through = record {
    at_true = truth_condition;
    up = both_condition;
    down = λ x y c. (record { over = c.over.0; sorted = c.sorted.1.0 }, record { over = c.over.1.0; sorted = c.sorted.1.1.0 });
  }

  each_condition : {ts : List Term} → AreConditions g vs xs ts → AllByRecursion (IsCondition g vs xs) ts
  each_condition no_conditions = tt
  each_condition (more_conditions c k) = (c, each_condition k)

  condition_each : (ts : List Term) → AllByRecursion (IsCondition g vs xs) ts → AreConditions g vs xs ts
  condition_each [] k = no_conditions
  condition_each (t ∷ ts) k = more_conditions k.0 (condition_each ts k.1)

  pub conditions_append : (ts us : List Term) → AreConditions g vs xs ts → AreConditions g vs xs us → AreConditions g vs xs (ts ++ us)
  conditions_append [] us h k = k
  conditions_append (t ∷ ts) us (more_conditions c h) k = more_conditions c (conditions_append ts us h k)

  pub parts_conditions : (t : Term) → IsCondition g vs xs t → AreConditions g vs xs (parts t)
  parts_conditions t c = condition_each (parts t) (parts_are (IsCondition g vs xs) conditions_through t c)

  pub chain_condition : (ts : List Term) → AreConditions g vs xs ts → IsCondition g vs xs (conjunction_of ts)
  chain_condition ts k = chain_is (IsCondition g vs xs) conditions_through ts (each_condition k)

  pub conjoined_condition : (ts : List Term) → AreConditions g vs xs ts → IsCondition g vs xs (conjoined ts)
  conjoined_condition ts k = conjoined_is (IsCondition g vs xs) conditions_through ts (each_condition k)

  pub joined_condition : (ts : List Term) → AreConditions g vs xs ts → IsCondition g vs xs (joined ts)
  joined_condition ts k = conjoined_is (IsCondition g vs xs) conditions_through (all_parts ts) (all_parts_are (IsCondition g vs xs) conditions_through ts (each_condition k))

pub joined_are_conditions : JoinedConditionsAreConditions
joined_are_conditions g vs xs cs k = joined_condition g vs xs cs k

-- ---- conditions in an environment that has closed terms of the variables' sorts
module _ (th : Theory) (vs : List Sort) (xs : List ℕ) (e : Environment) (has : HaveTerms th.declared vs xs (term_in e)) where
  abbrev Condition : Term → Type 0
  Condition t = IsCondition th.declared vs xs t

  abbrev Conditions : List Term → Type 0
  Conditions ts = AreConditions th.declared vs xs ts

  abbrev IsHeld : Term → Type 0
  IsHeld t = IsTrue th (put (term_in e) t)

  abbrev AreHeld : List Term → Type 0
  AreHeld ts = AllTrue th (map (put (term_in e)) ts)

  pub closed : (t : Term) → Condition t → HasSort th.declared [] (put (term_in e) t) boolean
  closed t c = closed_instance th.declared vs xs (term_in e) has t boolean c.over c.sorted

  pub not_holds : (t : Term) → Condition t → IsFalse th (put (term_in e) t) → IsHeld (!ᵗ t)
  not_holds t c h = (negation_true th.declared th.equations (put (term_in e) t) (closed t c)).1 h

  pub holds_not : (t : Term) → Condition t → IsHeld (!ᵗ t) → IsFalse th (put (term_in e) t)
  holds_not t c h = (negation_true th.declared th.equations (put (term_in e) t) (closed t c)).0 h

  pub both_hold : (t u : Term) → Condition t → Condition u → IsHeld t → IsHeld u → IsHeld (t ∧ᵗ u)
  both_hold t u c d h k = both_are_true th (term_in e) (λ z. Condition z) (conditions_through th.declared vs xs) closed t u c d h k

  pub hold_both : (t u : Term) → Condition t → Condition u → IsHeld (t ∧ᵗ u) → IsHeld t × IsHeld u
  hold_both t u c d h = true_are_both th (term_in e) (λ z. Condition z) (conditions_through th.declared vs xs) closed t u c d h

  pub conjoined_holds : (ts : List Term) → Conditions ts → AreHeld ts → IsHeld (conjoined ts)
  conjoined_holds ts k h = conjoined_is_true th (term_in e) (λ z. Condition z) (conditions_through th.declared vs xs) closed ts (each_condition th.declared vs xs k) h

  pub holds_conjoined : (ts : List Term) → Conditions ts → IsHeld (conjoined ts) → AreHeld ts
  holds_conjoined ts k h = true_is_conjoined th (term_in e) (λ z. Condition z) (conditions_through th.declared vs xs) closed ts (each_condition th.declared vs xs k) h

  pub parts_hold : (t : Term) → Condition t → IsHeld t → AreHeld (parts t)
  parts_hold t c h = parts_are_true th (term_in e) (λ z. Condition z) (conditions_through th.declared vs xs) closed t c h

  pub hold_parts : (t : Term) → Condition t → AreHeld (parts t) → IsHeld t
  hold_parts t c h = true_are_parts th (term_in e) (λ z. Condition z) (conditions_through th.declared vs xs) closed t c h

  -- parts in front of those of a condition
  pub guard_holds : (ps : List Term) (c : Term) → Conditions ps → Condition c → AreHeld ps → IsHeld c → IsHeld (conjoined (ps ++ parts c))
  guard_holds ps c k i h j =
      conjoined_holds (ps ++ parts c) (conditions_append th.declared vs xs ps (parts c) k (parts_conditions th.declared vs xs c i)) (all_true_append th (put (term_in e)) ps (parts c) h (parts_hold c i j))

  pub holds_guard : (ps : List Term) (c : Term) → Conditions ps → Condition c → IsHeld (conjoined (ps ++ parts c)) → AreHeld ps × IsHeld c
  holds_guard ps c k i h =
      let r = all_true_split th (put (term_in e)) ps (parts c) (holds_conjoined (ps ++ parts c) (conditions_append th.declared vs xs ps (parts c) k (parts_conditions th.declared vs xs c i)) h) in
      (r.0, hold_parts c i r.1)
