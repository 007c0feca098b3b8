-- What is provable of `!`, `&&`, `||`, `=>` and `if`.
use Rattle.std.proofs.Common.{List, [], refl}
use Rattle.data_theory.specs.Terms.{Sort, boolean, negation, conjunction, disjunction, implication, conditional, Term}
use Rattle.data_theory.specs.Declarations.{Data, IsSort, HasSort}
use Rattle.data_theory.specs.Equations.{trueᵗ, falseᵗ, !ᵗ◌, ◌∧ᵗ◌, ◌∨ᵗ◌, ◌⇒ᵗ◌, chooses, not_true, not_false, not_not, and_true, false_and, and_false, and_commutes, true_or, or_true, false_or, or_false, or_absorbs, or_commutes, and_absorbs, true_implies, false_implies, if_true, if_false}
use Rattle.data_theory.specs.Provable.{Equation, ProvablyEqual, reflexive, symmetric, transitive, congruent, built_in, no_places, place, ProvablyTrue, ProvablyFalse}
use Rattle.data_theory.specs.BooleanLaws.{NegationIsTrue, NegationIsFalse, ConjunctionIsTrue, ConjunctionWithFalse, ConjunctionBeforeFalse, DisjunctionIsFalse, DisjunctionWithTrue, DisjunctionBeforeTrue, DisjunctionWithFalse, DisjunctionBeforeFalse, ImplicationFromTrue, ImplicationFromFalse, IfTrue, IfFalse}

-- ---- sorts
abbrev pub true_has_sort : (g : Data) → HasSort g [] trueᵗ boolean
true_has_sort g = (tt, tt, refl, refl)

abbrev pub false_has_sort : (g : Data) → HasSort g [] falseᵗ boolean
false_has_sort g = (tt, tt, refl, refl)

abbrev pub not_has_sort : (g : Data) (x : Term) → HasSort g [] x boolean → HasSort g [] (!ᵗ x) boolean
not_has_sort g x p = (tt, (p, tt), refl, refl)

abbrev pub and_has_sort : (g : Data) (x y : Term) → HasSort g [] x boolean → HasSort g [] y boolean → HasSort g [] (x ∧ᵗ y) boolean
and_has_sort g x y p q = (tt, (p, (q, tt)), refl, refl)

abbrev pub or_has_sort : (g : Data) (x y : Term) → HasSort g [] x boolean → HasSort g [] y boolean → HasSort g [] (x ∨ᵗ y) boolean
or_has_sort g x y p q = (tt, (p, (q, tt)), refl, refl)

abbrev pub implies_has_sort : (g : Data) (x y : Term) → HasSort g [] x boolean → HasSort g [] y boolean → HasSort g [] (x ⇒ᵗ y) boolean
implies_has_sort g x y p q = (tt, (p, (q, tt)), refl, refl)

abbrev pub chooses_has_sort : (g : Data) (s : Sort) (b x y : Term) → IsSort g s → HasSort g [] b boolean → HasSort g [] x s → HasSort g [] y s → HasSort g [] (chooses s b x y) s
chooses_has_sort g s b x y i o p q = (i, (o, (p, (q, tt))), refl, refl)

module _ (g : Data) (own : List Equation) where
  -- ---- one argument put for a provably equal one
  under_not : {x y : Term} → ProvablyEqual g own x y → ProvablyEqual g own (!ᵗ x) (!ᵗ y)
  under_not h = congruent negation (place h no_places)

  under_and : {x x' y y' : Term} → ProvablyEqual g own x x' → ProvablyEqual g own y y' → ProvablyEqual g own (x ∧ᵗ y) (x' ∧ᵗ y')
  under_and h k = congruent conjunction (place h (place k no_places))

  under_or : {x x' y y' : Term} → ProvablyEqual g own x x' → ProvablyEqual g own y y' → ProvablyEqual g own (x ∨ᵗ y) (x' ∨ᵗ y')
  under_or h k = congruent disjunction (place h (place k no_places))

  under_implies : {x x' y y' : Term} → ProvablyEqual g own x x' → ProvablyEqual g own y y' → ProvablyEqual g own (x ⇒ᵗ y) (x' ⇒ᵗ y')
  under_implies h k = congruent implication (place h (place k no_places))

  under_if : (s : Sort) {b b' x y : Term} → ProvablyEqual g own b b' → ProvablyEqual g own (chooses s b x y) (chooses s b' x y)
  under_if s h = congruent (conditional s) (place h (place reflexive (place reflexive no_places)))

  -- ---- conjunction
  both_true : (x y : Term) → ProvablyTrue g own x → ProvablyTrue g own y → ProvablyTrue g own (x ∧ᵗ y)
  both_true x y h k = transitive (under_and h k) (built_in boolean and_true (and_has_sort g trueᵗ trueᵗ (true_has_sort g) (true_has_sort g)) reflexive)

  -- x is x || (x && y), so x || true
  first_true : (x y : Term) → HasSort g [] x boolean → HasSort g [] y boolean → ProvablyTrue g own (x ∧ᵗ y) → ProvablyTrue g own x
  first_true x y p q h =
      let absorbed : ProvablyEqual g own (x ∨ᵗ (x ∧ᵗ y)) x = built_in boolean or_absorbs (or_has_sort g x (x ∧ᵗ y) p (and_has_sort g x y p q)) reflexive in
      let with_true : ProvablyTrue g own (x ∨ᵗ trueᵗ) = built_in boolean or_true (or_has_sort g x trueᵗ p (true_has_sort g)) reflexive in
      transitive (symmetric absorbed) (transitive (under_or reflexive h) with_true)

  second_true : (x y : Term) → HasSort g [] x boolean → HasSort g [] y boolean → ProvablyTrue g own (x ∧ᵗ y) → ProvablyTrue g own y
  second_true x y p q h = first_true y x q p (transitive (symmetric (built_in boolean and_commutes (and_has_sort g x y p q) reflexive)) h)

  -- ---- disjunction
  both_false : (x y : Term) → ProvablyFalse g own x → ProvablyFalse g own y → ProvablyFalse g own (x ∨ᵗ y)
  both_false x y h k = transitive (under_or h k) (built_in boolean or_false (or_has_sort g falseᵗ falseᵗ (false_has_sort g) (false_has_sort g)) reflexive)

  -- x is x && (x || y), so x && false
  first_false : (x y : Term) → HasSort g [] x boolean → HasSort g [] y boolean → ProvablyFalse g own (x ∨ᵗ y) → ProvablyFalse g own x
  first_false x y p q h =
      let absorbed : ProvablyEqual g own (x ∧ᵗ (x ∨ᵗ y)) x = built_in boolean and_absorbs (and_has_sort g x (x ∨ᵗ y) p (or_has_sort g x y p q)) reflexive in
      let with_false : ProvablyFalse g own (x ∧ᵗ falseᵗ) = built_in boolean and_false (and_has_sort g x falseᵗ p (false_has_sort g)) reflexive in
      transitive (symmetric absorbed) (transitive (under_and reflexive h) with_false)

  second_false : (x y : Term) → HasSort g [] x boolean → HasSort g [] y boolean → ProvablyFalse g own (x ∨ᵗ y) → ProvablyFalse g own y
  second_false x y p q h = first_false y x q p (transitive (symmetric (built_in boolean or_commutes (or_has_sort g x y p q) reflexive)) h)

pub negation_true : NegationIsTrue
negation_true g own x p = (
  λ h. transitive (symmetric (built_in boolean not_not (not_has_sort g (!ᵗ x) (not_has_sort g x p)) reflexive)) (transitive (under_not g own h) (built_in boolean not_true (not_has_sort g trueᵗ (true_has_sort g)) reflexive)),
  λ h. transitive (under_not g own h) (built_in boolean not_false (not_has_sort g falseᵗ (false_has_sort g)) reflexive),
)

pub negation_false : NegationIsFalse
negation_false g own x p = (
  λ h. transitive (symmetric (built_in boolean not_not (not_has_sort g (!ᵗ x) (not_has_sort g x p)) reflexive)) (transitive (under_not g own h) (built_in boolean not_false (not_has_sort g falseᵗ (false_has_sort g)) reflexive)),
  λ h. transitive (under_not g own h) (built_in boolean not_true (not_has_sort g trueᵗ (true_has_sort g)) reflexive),
)

pub conjunction_true : ConjunctionIsTrue
conjunction_true g own x y p q = (λ h. (first_true g own x y p q h, second_true g own x y p q h), λ h. both_true g own x y h.0 h.1)

pub conjunction_with_false : ConjunctionWithFalse
conjunction_with_false g own x y q h = transitive (under_and g own h reflexive) (built_in boolean false_and (and_has_sort g falseᵗ y (false_has_sort g) q) reflexive)

pub conjunction_before_false : ConjunctionBeforeFalse
conjunction_before_false g own x y p h = transitive (under_and g own reflexive h) (built_in boolean and_false (and_has_sort g x falseᵗ p (false_has_sort g)) reflexive)

pub disjunction_false : DisjunctionIsFalse
disjunction_false g own x y p q = (λ h. (first_false g own x y p q h, second_false g own x y p q h), λ h. both_false g own x y h.0 h.1)

pub disjunction_with_true : DisjunctionWithTrue
disjunction_with_true g own x y q h = transitive (under_or g own h reflexive) (built_in boolean true_or (or_has_sort g trueᵗ y (true_has_sort g) q) reflexive)

pub disjunction_before_true : DisjunctionBeforeTrue
disjunction_before_true g own x y p h = transitive (under_or g own reflexive h) (built_in boolean or_true (or_has_sort g x trueᵗ p (true_has_sort g)) reflexive)

pub disjunction_with_false : DisjunctionWithFalse
disjunction_with_false g own x y q h = transitive (under_or g own h reflexive) (built_in boolean false_or (or_has_sort g falseᵗ y (false_has_sort g) q) reflexive)

pub disjunction_before_false : DisjunctionBeforeFalse
disjunction_before_false g own x y p h = transitive (under_or g own reflexive h) (built_in boolean or_false (or_has_sort g x falseᵗ p (false_has_sort g)) reflexive)

pub implication_from_true : ImplicationFromTrue
implication_from_true g own x y q h = transitive (under_implies g own h reflexive) (built_in boolean true_implies (implies_has_sort g trueᵗ y (true_has_sort g) q) reflexive)

pub implication_from_false : ImplicationFromFalse
implication_from_false g own x y q h = transitive (under_implies g own h reflexive) (built_in boolean false_implies (implies_has_sort g falseᵗ y (false_has_sort g) q) reflexive)

pub if_is_true : IfTrue
if_is_true g own s b x y i p q h = transitive (under_if g own s h) (built_in s if_true (chooses_has_sort g s trueᵗ x y i (true_has_sort g) p q) reflexive)

pub if_is_false : IfFalse
if_is_false g own s b x y i p q h = transitive (under_if g own s h) (built_in s if_false (chooses_has_sort g s falseᵗ x y i (false_has_sort g) p q) reflexive)
