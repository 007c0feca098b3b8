-- What is left of a condition as needless parts `true` go.
use Rattle.std.proofs.Common.{◌≡◌, ◌≤◌, ℕ, Bool, true, false, if◌then◌else◌, List, [], ◌∷◌, length, refl, sym, subst, arith, ap, ◌∙◌, ⊎_elim}
use Rattle.std.specs.Prelude.{Contains}
use Rattle.std.specs.List.{AllByRecursion}
use Rattle.data_theory.specs.Terms.{Sort, boolean, Term, conjunction, application, none, more, put}
use Rattle.data_theory.specs.Declarations.{Data, HasSort}
use Rattle.data_theory.specs.Environments.{IsOver, term_in}
use Rattle.data_theory.specs.Equations.{trueᵗ, ◌∧ᵗ◌, true_and, and_true}
use Rattle.data_theory.specs.Provable.{Equation, ProvablyEqual, reflexive, transitive, congruent, built_in, no_places, place}
use Rattle.process_terms.specs.Communication.{conjunction_of}
use Rattle.bisim_laws.specs.LinearProcesses.{is_true}
use Rattle.bisim_laws.proofs.Firing.{contains_none, contains_first, contains_later, contains_cases}
use Rattle.lps_core.specs.CanonicalConditions.{HasNoNeedlessTrue}
use Rattle.lps_core.specs.Conditions.{parts}
use Rattle.lps_core.specs.MadeTerms.{StandsIn, the_whole, on_the_left, on_the_right}
use Rattle.lps_core.proofs.Chains.{true_alone, GoesThroughAnd}
use Rattle.lin_driver.specs.NeededParts.{in_front, needed_parts, tidied, TidiedConditionsHaveNoNeedlessTrue, TidiedPartsStandInTheCondition, TidyConditionsStay, TidiedConditionsAreEqual}

-- ---- what goes down to both sides of `&&`
module _ (P : Term → Type 0) (down : (x y : Term) → P (x ∧ᵗ y) → P x × P y) where
  front_are : (c : Term) (own ds : List Term) → P c → AllByRecursion P own → AllByRecursion P ds → AllByRecursion P (in_front c own ds)
  front_are c own [] h k i = k
  front_are c own (d ∷ ds) h k i = elim (is_true c) as (λ b. AllByRecursion P (if b then d ∷ ds else c ∷ d ∷ ds)) [ true ↦ i | false ↦ (h, i) ]

  pub needed_are : (c : Term) → P c → AllByRecursion P (needed_parts c)
  needed_are (application conjunction (more x (more y none))) h = let d = down x y h in front_are x (needed_parts x) (needed_parts y) d.0 (needed_are x d.0) (needed_are y d.1)
  needed_are c h = elim (is_true c) as (λ b. AllByRecursion P (if b then [] else c ∷ [])) [ true ↦ tt | false ↦ (h, tt) ]

-- ---- what goes through `&&` both ways
pub chain_is : (P : Term → Type 0) → GoesThroughAnd P → (cs : List Term) → AllByRecursion P cs → P (conjunction_of cs)
chain_is P a [] h = a.at_true
chain_is P a (c ∷ []) h = h.0
chain_is P a (c ∷ d ∷ cs) h = a.up c (conjunction_of (d ∷ cs)) h.0 (chain_is P a (d ∷ cs) h.1)

pub tidied_is : (P : Term → Type 0) → GoesThroughAnd P → (c : Term) → P c → P (tidied c)
tidied_is P a c h = chain_is P a (needed_parts c) (needed_are P a.down c h)

pub tidied_over : (xs : List ℕ) (c : Term) → IsOver xs c → IsOver xs (tidied c)
tidied_over xs c h = tidied_is (IsOver xs) (record { at_true = tt; up = λ x y h k. (h, (k, tt)); down = λ x y h. (h.0, h.1.0) }) c h

truths_sorted : (g : Data) (vs : List Sort) → GoesThroughAnd (λ c. HasSort g vs c boolean)
truths_sorted g vs = record { at_true = (tt, tt, refl, refl); up = λ x y h k. (tt, (h, (k, tt)), refl, refl); down = λ x y h. (h.1.0, h.1.1.0) }

-- a condition has the sort Bool, and any other term is left as it is
pub tidied_sorted : (g : Data) (vs : List Sort) (c : Term) (s : Sort) → HasSort g vs c s → HasSort g vs (tidied c) s
tidied_sorted g vs (application conjunction (more x (more y none))) s h =
    subst (λ z. HasSort g vs (tidied (x ∧ᵗ y)) z) h.2 (tidied_is (λ c. HasSort g vs c boolean) (truths_sorted g vs) (x ∧ᵗ y) (subst (λ z. HasSort g vs (x ∧ᵗ y) z) (sym h.2) h))
tidied_sorted g vs c s h = alone (is_true c) refl
  where
    alone : (b : Bool) → is_true c ≡ b → HasSort g vs (conjunction_of (if b then [] else c ∷ [])) s
    alone true q = subst (λ z. HasSort g vs z s) (true_alone c q) h
    alone false q = h

-- ---- provable equality, of what is closed once terms are put in
module _ (g : Data) (own : List Equation) (e : ℕ → Term) where
  abbrev Equal : Term → Term → Type 0
  Equal c d = ProvablyEqual g own (put e c) (put e d)

  abbrev IsClosed : Term → Type 0
  IsClosed c = HasSort g [] (put e c) boolean

  front_equal : (x y : Term) (own ds : List Term) → IsClosed x → IsClosed y → Equal x (conjunction_of own) → Equal y (conjunction_of ds) → Equal (x ∧ᵗ y) (conjunction_of (in_front x own ds))
  front_equal x y own [] h k i j = transitive (congruent conjunction (place reflexive (place j no_places))) (transitive (built_in boolean and_true (tt, (h, ((tt, tt, refl, refl), tt)), refl, refl) reflexive) i)
  front_equal x y own (d ∷ ds) h k i j = by_first (is_true x) refl
    where
      by_first : (b : Bool) → is_true x ≡ b → Equal (x ∧ᵗ y) (conjunction_of (if b then d ∷ ds else x ∷ d ∷ ds))
      by_first true q = subst (λ z. Equal (z ∧ᵗ y) (conjunction_of (d ∷ ds))) (sym (true_alone x q)) (transitive (built_in boolean true_and (tt, ((tt, tt, refl, refl), (k, tt)), refl, refl) reflexive) j)
      by_first false q = congruent conjunction (place reflexive (place j no_places))

  alone_equal : (c : Term) → Equal c (conjunction_of (if is_true c then [] else c ∷ []))
  alone_equal c = by_test (is_true c) refl
    where
      by_test : (b : Bool) → is_true c ≡ b → Equal c (conjunction_of (if b then [] else c ∷ []))
      by_test true q = subst (λ z. Equal z trueᵗ) (sym (true_alone c q)) reflexive
      by_test false q = reflexive

  closed_equal : (c : Term) → IsClosed c → Equal c (tidied c)
  closed_equal (application conjunction (more x (more y none))) h = front_equal x y (needed_parts x) (needed_parts y) h.1.0 h.1.1.0 (closed_equal x h.1.0) (closed_equal y h.1.1.0)
  closed_equal c h = alone_equal c

  -- of any sort, since only a condition changes
  pub tidied_equal : (c : Term) (s : Sort) → HasSort g [] (put e c) s → Equal c (tidied c)
  tidied_equal (application conjunction (more x (more y none))) s h = closed_equal (x ∧ᵗ y) (subst (λ z. HasSort g [] (put e (x ∧ᵗ y)) z) (sym h.2) h)
  tidied_equal c s h = alone_equal c

pub conditions_equal : TidiedConditionsAreEqual
conditions_equal th e c h = closed_equal th.declared th.equations (term_in e) c h

-- ---- no part is `true`
abbrev pub AreNotTrue : List Term → Type 0
AreNotTrue cs = AllByRecursion (λ c. is_true c ≡ false) cs

front_not_true : (x : Term) (own ds : List Term) → AreNotTrue own → AreNotTrue ds → AreNotTrue (in_front x own ds)
front_not_true x own [] k h = k
front_not_true x own (d ∷ ds) k h = by_first (is_true x) refl
  where
    by_first : (b : Bool) → is_true x ≡ b → AreNotTrue (if b then d ∷ ds else x ∷ d ∷ ds)
    by_first true q = h
    by_first false q = (q, h)

needed_not_true : (c : Term) → AreNotTrue (needed_parts c)
needed_not_true (application conjunction (more x (more y none))) = front_not_true x (needed_parts x) (needed_parts y) (needed_not_true x) (needed_not_true y)
needed_not_true c = alone (is_true c) refl
  where
    alone : (b : Bool) → is_true c ≡ b → AreNotTrue (if b then [] else c ∷ [])
    alone true q = tt
    alone false q = (q, tt)

-- the last one is no `&&`
abbrev EndAlone : List Term → Type 0
EndAlone [] = Unit {0}
EndAlone (c ∷ []) = parts c ≡ c ∷ []
EndAlone (c ∷ d ∷ ds) = EndAlone (d ∷ ds)

front_end : (x : Term) (own ds : List Term) → EndAlone own → EndAlone ds → EndAlone (in_front x own ds)
front_end x own [] k h = k
front_end x own (d ∷ ds) k h = elim (is_true x) as (λ b. EndAlone (if b then d ∷ ds else x ∷ d ∷ ds)) [ true ↦ h | false ↦ h ]

needed_end : (c : Term) → EndAlone (needed_parts c)
needed_end (application conjunction (more x (more y none))) = front_end x (needed_parts x) (needed_parts y) (needed_end x) (needed_end y)
needed_end c = elim (is_true c) as (λ b. EndAlone (if b then [] else c ∷ [])) [ true ↦ tt | false ↦ refl ]

-- so the chain has these parts
parts_of_chain : (c : Term) (cs : List Term) → EndAlone (c ∷ cs) → parts (conjunction_of (c ∷ cs)) ≡ c ∷ cs
parts_of_chain c [] h = h
parts_of_chain c (d ∷ ds) h = ap (λ z. c ∷ z) (parts_of_chain d ds h)

not_among : (cs : List Term) → AreNotTrue cs → Contains cs trueᵗ → ⊥
not_among [] h i = contains_none trueᵗ i
not_among (c ∷ cs) h i = ⊎_elim (λ q. differ (subst (λ z. is_true z ≡ false) q h.0)) (λ j. not_among cs h.1 j) (contains_cases c trueᵗ cs i)
  where
    differ : true ≡ false → ⊥
    differ q = cc

chain_has_none : (cs : List Term) → AreNotTrue cs → EndAlone cs → HasNoNeedlessTrue (conjunction_of cs)
chain_has_none [] h k = λ two i. absurd (omega (arith, two))
chain_has_none (c ∷ cs) h k = λ two i. not_among (c ∷ cs) h (subst (λ z. Contains z trueᵗ) (parts_of_chain c cs k) i)

pub tidied_has_none : TidiedConditionsHaveNoNeedlessTrue
tidied_has_none c = chain_has_none (needed_parts c) (needed_not_true c) (needed_end c)

-- ---- the parts stand in the condition
each_stands : (P : Term → Type 0) (cs : List Term) → AllByRecursion P cs → (p : Term) → Contains cs p → P p
each_stands P [] h p i = absurd (contains_none p i)
each_stands P (c ∷ cs) h p i = ⊎_elim (λ q. subst P q h.0) (λ j. each_stands P cs h.1 p j) (contains_cases c p cs i)

-- where none is needed, `true` stands in it
module _ (d : Term) where
  none_in_front : (x : Term) (own ds : List Term) → in_front x own ds ≡ [] → ds ≡ []
  none_in_front x own [] e = refl
  none_in_front x own (p ∷ ps) e = by_first (is_true x) e
    where
      by_first : (b : Bool) → (if b then p ∷ ps else x ∷ p ∷ ps) ≡ [] → p ∷ ps ≡ []
      by_first true e = e
      by_first false e = absurd (let never : ⊥ = cc in never)

  true_stands : (c : Term) → StandsIn d c → needed_parts c ≡ [] → StandsIn d trueᵗ
  true_stands (application conjunction (more x (more y none))) s e = true_stands y (on_the_right s) (none_in_front x (needed_parts x) (needed_parts y) e)
  true_stands c s e = alone (is_true c) refl e
    where
      alone : (b : Bool) → is_true c ≡ b → (if b then [] else c ∷ []) ≡ [] → StandsIn d trueᵗ
      alone true q e = subst (λ z. StandsIn d z) (true_alone c q) s
      alone false q e = absurd (let never : ⊥ = cc in never)

  chain_stands : (cs : List Term) → (cs ≡ [] → StandsIn d trueᵗ) → AllByRecursion (StandsIn d) cs → EndAlone cs → (p : Term) → Contains (parts (conjunction_of cs)) p → StandsIn d p
  chain_stands [] w h k p i = ⊎_elim (λ q. subst (λ z. StandsIn d z) q (w refl)) (λ j. absurd (contains_none p j)) (contains_cases trueᵗ p [] i)
  chain_stands (c ∷ cs) w h k p i = each_stands (StandsIn d) (c ∷ cs) h p (subst (λ z. Contains z p) (parts_of_chain c cs k) i)

pub tidied_stand : TidiedPartsStandInTheCondition
tidied_stand c p i = chain_stands c (needed_parts c) (true_stands c c the_whole) (needed_are (StandsIn c) (λ x y s. (on_the_left s, on_the_right s)) c the_whole) (needed_end c) p i

-- ---- what has no needless `true` stays
pub not_true_first : (c : Term) (cs : List Term) → (Contains (c ∷ cs) trueᵗ → ⊥) → is_true c ≡ false
not_true_first c cs n = by_test (is_true c) refl
  where
    by_test : (b : Bool) → is_true c ≡ b → b ≡ false
    by_test true q = absurd (n (subst (λ z. Contains (c ∷ cs) z) (true_alone c q) (contains_first c cs)))
    by_test false q = refl

front_of_parts : (x : Term) (own : List Term) (y : Term) → is_true x ≡ false → in_front x own (parts y) ≡ x ∷ parts y
front_of_parts x own (application conjunction (more u (more v none))) q = ap (λ b. if b then u ∷ parts v else x ∷ u ∷ parts v) q
front_of_parts x own y q = ap (λ b. if b then y ∷ [] else x ∷ y ∷ []) q

all_needed : (c : Term) → (Contains (parts c) trueᵗ → ⊥) → needed_parts c ≡ parts c
all_needed (application conjunction (more x (more y none))) n =
    ap (in_front x (needed_parts x)) (all_needed y (λ i. n (contains_later x trueᵗ (parts y) i))) ∙ front_of_parts x (needed_parts x) y (not_true_first x (parts y) n)
all_needed c n = ap (λ b. if b then [] else c ∷ []) (not_true_first c [] n)

pub chain_in_front : (x y : Term) → conjunction_of (x ∷ parts y) ≡ x ∧ᵗ conjunction_of (parts y)
chain_in_front x (application conjunction (more u (more v none))) = refl
chain_in_front x y = refl

pub chain_of_parts : (c : Term) → conjunction_of (parts c) ≡ c
chain_of_parts (application conjunction (more x (more y none))) = chain_in_front x y ∙ ap (λ z. x ∧ᵗ z) (chain_of_parts y)
chain_of_parts c = refl

pub some_part : (c : Term) → 1 ≤ length (parts c)
some_part (application conjunction (more x (more y none))) = omega arith
some_part c = omega arith

pub tidy_stays : TidyConditionsStay
tidy_stays (application conjunction (more x (more y none))) h = let some = some_part y in ap conjunction_of (all_needed (x ∧ᵗ y) (h (omega (arith, some)))) ∙ chain_of_parts (x ∧ᵗ y)
tidy_stays c h = alone (is_true c) refl
  where
    alone : (b : Bool) → is_true c ≡ b → conjunction_of (if b then [] else c ∷ []) ≡ c
    alone true q = sym (true_alone c q)
    alone false q = refl
