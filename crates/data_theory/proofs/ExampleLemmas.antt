-- The worked derivations.
use Rattle.std.proofs.Common.{ℕ, zero, suc, ◌<◌, List, [], ◌∷◌, length, refl, subst, arith}
use Rattle.std.specs.Prelude.{◌^◌, pos}
use Rattle.std.proofs.lemmas.Int.{ints}
use Rattle.std.specs.List.{All}
use Rattle.std.proofs.lemmas.List.Elements.{All-cons, All-nil, All-from_recursion}
use Rattle.data_theory.specs.Terms.{Symbol, truth, falsity, negation, boolean, positive, natural, list, named, head, membership, function, Term, Terms, variable, numeral, unknown, application, none, more}
use Rattle.data_theory.specs.Declarations.{Data, FitsRole, IsSort, Declares, HasSort, NoSortIsEmpty, function_at}
use Rattle.data_theory.specs.Equations.{not_true, trueᵗ, falseᵗ, one, two, equals, emptyᵗ, consᵗ, in_cons, equal_numerals, equal_itself, head_cons, ◌∨ᵗ◌}
use Rattle.data_theory.specs.Provable.{Equation, ProvablyEqual, PlacesEqual, reflexive, transitive, built_in, written, reflected, place, ProvablyTrue, IsClosedInstance, IsEmptyList}
use Rattle.data_theory.specs.Rewriting.{Applies, a_line, an_equation, LooksFirst, FirstDecides, GoesTo, by_all, no_arguments, an_argument, tries, used, without_condition}
use Rattle.data_theory.proofs.GoesToIsEqual.{unmatched_roots_stay}
use Rattle.data_theory.specs.Examples.{TheLastNumeral, NoNumeralBehindTheLast, NotTrueGoesToFalse, FalseIsNormal, one_pos, two_pos, three_pos, TwoIsInOneTwo, HeadOfThree, OneIsNotTwo, wrapped_numbers, WrappedNumbersTell, two_mappings, first_is_second, MappingsAreEqual, true_is_false, TrueIsFalseIsInconsistent, small_data, small_equations, SmallDataMeetThePremises, SmallDataAreConsistent}
use Rattle.data_theory.proofs.EqualityLemmas.{equals_has_sort, equals_of_equal}
use Rattle.data_theory.proofs.BooleanLemmas.{disjunction_with_false, disjunction_with_true}
use Rattle.data_theory.proofs.ConsistencyLemmas.{constructors_are_injective, built_in_equations_are_consistent}

-- ---- sorts of what stands in the derivations
numeral_is : (g : Data) (n : ℕ) → suc n < 2 ^ 128 → HasSort g [] (numeral positive (pos (suc n))) positive
numeral_is g n small = (refl, (omega (arith, ints), small))

abbrev list_has_sort : (g : Data) (x l : Term) → HasSort g [] x positive → HasSort g [] l (list positive) → HasSort g [] (consᵗ positive x l) (list positive)
list_has_sort g x l h k = (tt, (h, (k, tt)), refl, refl)

abbrev nothing_has_sort : (g : Data) → HasSort g [] (emptyᵗ positive) (list positive)
nothing_has_sort g = (tt, tt, refl, refl)

abbrev in_has_sort : (g : Data) (x l : Term) → HasSort g [] x positive → HasSort g [] l (list positive) → HasSort g [] (two (membership positive) x l) boolean
in_has_sort g x l h k = (tt, (h, (k, tt)), refl, refl)

-- ---- the derivations
-- 2 in [1, 2] = (2 == 1) || (2 in [2]) = false || ((2 == 2) || (2 in [])) = true
pub two_is_in_one_two : TwoIsInOneTwo
two_is_in_one_two g own =
    let two_list = consᵗ positive two_pos (emptyᵗ positive) in
    let two_list_is = list_has_sort g two_pos (emptyᵗ positive) (numeral_is g 1 (omega arith)) (nothing_has_sort g) in
    let rest = two (membership positive) two_pos (emptyᵗ positive) in
    let later = two (membership positive) two_pos two_list in
    let unfolded : ProvablyEqual g own (two (membership positive) two_pos (consᵗ positive one_pos two_list)) (equals positive two_pos one_pos ∨ᵗ later) =
    built_in boolean in_cons (in_has_sort g two_pos (consᵗ positive one_pos two_list) (numeral_is g 1 (omega arith)) (list_has_sort g one_pos two_list (numeral_is g 0 (omega arith)) two_list_is)) reflexive in
    let differs : ProvablyEqual g own (equals positive two_pos one_pos) falseᵗ = built_in boolean equal_numerals (equals_has_sort g positive two_pos one_pos tt (numeral_is g 1 (omega arith)) (numeral_is g 0 (omega arith))) reflexive in
    let later_unfolded : ProvablyEqual g own later (equals positive two_pos two_pos ∨ᵗ rest) = built_in boolean in_cons (in_has_sort g two_pos two_list (numeral_is g 1 (omega arith)) two_list_is) reflexive in
    let itself : ProvablyTrue g own (equals positive two_pos two_pos) = built_in boolean equal_itself (equals_has_sort g positive two_pos two_pos tt (numeral_is g 1 (omega arith)) (numeral_is g 1 (omega arith))) reflexive in
    let later_true : ProvablyTrue g own later = transitive later_unfolded (disjunction_with_true g own (equals positive two_pos two_pos) rest (in_has_sort g two_pos (emptyᵗ positive) (numeral_is g 1 (omega arith)) (nothing_has_sort g)) itself) in
    transitive unfolded (transitive (disjunction_with_false g own (equals positive two_pos one_pos) later (in_has_sort g two_pos two_list (numeral_is g 1 (omega arith)) two_list_is) differs) later_true)

pub head_of_three : HeadOfThree
head_of_three g own =
    let l = consᵗ positive three_pos (emptyᵗ positive) in
    let h : HasSort g [] (one (head positive) l) positive = (tt, (list_has_sort g three_pos (emptyᵗ positive) (numeral_is g 2 (omega arith)) (nothing_has_sort g), tt), refl, refl) in
    equals_of_equal g own positive (one (head positive) l) three_pos tt h (built_in positive head_cons h reflexive)

pub one_is_not_two : OneIsNotTwo
one_is_not_two g own = built_in boolean equal_numerals (equals_has_sort g positive one_pos two_pos tt (numeral_is g 0 (omega arith)) (numeral_is g 1 (omega arith))) reflexive

wrapped_roles : (k : ℕ) → k < length wrapped_numbers.functions → FitsRole wrapped_numbers (function_at wrapped_numbers k) (function_at wrapped_numbers k).role
wrapped_roles zero l = (0, refl)
wrapped_roles (suc k) l = absurd (omega (arith, l))

wrapped_results : (k : ℕ) → k < length wrapped_numbers.functions → IsSort wrapped_numbers (function_at wrapped_numbers k).result
wrapped_results zero l = omega arith
wrapped_results (suc k) l = absurd (omega (arith, l))

wrapped_arguments : (k : ℕ) → k < length wrapped_numbers.functions → All (IsSort wrapped_numbers) (function_at wrapped_numbers k).arguments
wrapped_arguments zero l = All-from_recursion (IsSort wrapped_numbers) (natural ∷ []) (tt, tt)
wrapped_arguments (suc k) l = absurd (omega (arith, l))

first_place : {g : Data} {own : List Equation} {t u : Term} {ts us : Terms} → PlacesEqual g own (more t ts) (more u us) → ProvablyEqual g own t u
first_place (place h k) = h

pub wrapped_numbers_tell : WrappedNumbersTell
wrapped_numbers_tell own x y h k e =
    let has_sort : (t : Term) → HasSort wrapped_numbers [] t natural → HasSort wrapped_numbers [] (one (function 0) t) (named 0) = λ t i. (omega arith, (i, tt), refl, refl) in
    first_place (constructors_are_injective wrapped_numbers own (record { roles = wrapped_roles; results = wrapped_results; arguments = wrapped_arguments }) 0 0 (more x none) (more y none) refl refl (has_sort x h) (has_sort y k) (reflected e))

pub mappings_are_equal : MappingsAreEqual
mappings_are_equal t h =
    let e : ℕ → Term = λ v. t in
    let same : ProvablyEqual two_mappings (first_is_second ∷ []) (one (function 0) t) (one (function 1) t) = written first_is_second e (0, omega arith, refl) fits reflexive in
    let sort : HasSort two_mappings [] (one (function 0) t) natural = (omega arith, (h, tt), refl, refl) in
    equals_of_equal two_mappings (first_is_second ∷ []) natural (one (function 0) t) (one (function 1) t) tt sort same
  where
    fits : IsClosedInstance two_mappings first_is_second (λ v. t)
    fits v (zero, l, e) = (natural, subst (λ w. Declares (natural ∷ []) w natural) e refl, h)
    fits v (suc zero, l, e) = (natural, subst (λ w. Declares (natural ∷ []) w natural) e refl, h)
    fits v (suc (suc k), l, e) = absurd (omega (arith, l))

pub true_is_false_is_inconsistent : TrueIsFalseIsInconsistent
true_is_false_is_inconsistent g ok = ok (written true_is_false (λ v. variable v) (0, omega arith, refl) (λ v o. absurd (omega (arith, o.1))) reflexive)

small_roles : (k : ℕ) → k < length small_data.functions → FitsRole small_data (function_at small_data k) (function_at small_data k).role
small_roles zero l = (0, refl)
small_roles (suc zero) l = (0, refl)
small_roles (suc (suc zero)) l = (0, refl, refl, refl, omega arith, refl, refl)
small_roles (suc (suc (suc zero))) l = (0, refl, refl, refl, refl, refl)
small_roles (suc (suc (suc (suc zero)))) l = tt
small_roles (suc (suc (suc (suc (suc k))))) l = absurd (omega (arith, l))

small_results : (k : ℕ) → k < length small_data.functions → IsSort small_data (function_at small_data k).result
small_results zero l = omega arith
small_results (suc zero) l = omega arith
small_results (suc (suc zero)) l = tt
small_results (suc (suc (suc zero))) l = tt
small_results (suc (suc (suc (suc zero)))) l = tt
small_results (suc (suc (suc (suc (suc k))))) l = absurd (omega (arith, l))

small_arguments : (k : ℕ) → k < length small_data.functions → All (IsSort small_data) (function_at small_data k).arguments
small_arguments zero l = All-nil (IsSort small_data)
small_arguments (suc zero) l = All-from_recursion (IsSort small_data) (natural ∷ []) (tt, tt)
small_arguments (suc (suc zero)) l = All-from_recursion (IsSort small_data) (named 0 ∷ []) (omega arith, tt)
small_arguments (suc (suc (suc zero))) l = All-from_recursion (IsSort small_data) (named 0 ∷ []) (omega arith, tt)
small_arguments (suc (suc (suc (suc zero)))) l = All-nil (IsSort small_data)
small_arguments (suc (suc (suc (suc (suc k))))) l = absurd (omega (arith, l))

small_inhabited : NoSortIsEmpty small_data
small_inhabited zero l = (application (function 0) none, ((refl, tt), (omega arith, tt, refl, refl)))
small_inhabited (suc zero) l = (unknown 1 0, (tt, (refl, omega arith, refl)))
small_inhabited (suc (suc d)) l = absurd (omega (arith, l))

abbrev empty_list : Equation
empty_list = record { sorts = []; condition = trueᵗ; left = application (function 4) none; right = emptyᵗ boolean }

pub small_data_meet_the_premises : SmallDataMeetThePremises
small_data_meet_the_premises = record {
  data_are = record { roles = small_roles; results = small_results; arguments = small_arguments };
  no_sort_is_empty = small_inhabited;
  empty_lists = All-cons (IsEmptyList small_data) empty_list [] (record { map = 4; element = boolean; role = refl; result = refl; left = refl; right = refl }) (All-nil (IsEmptyList small_data));
}

pub small_data_are_consistent : SmallDataAreConsistent
small_data_are_consistent = let p = small_data_meet_the_premises in built_in_equations_are_consistent small_data p.data_are p.no_sort_is_empty small_equations p.empty_lists

-- no equation of the table has `true` or `false` alone on its left
nothing_at_true : (g : Data) (k : ℕ) (c r : Term) (x : ℕ) → Applies g [] k trueᵗ c r x → ⊥
nothing_at_true g k c r x (a_line b p) = elim b [ ]
nothing_at_true g k c r x (an_equation i e p q h) = cc

nothing_at_false : (g : Data) (k : ℕ) (c r : Term) (x : ℕ) → Applies g [] k falseᵗ c r x → ⊥
nothing_at_false g k c r x (a_line b p) = elim b [ ]
nothing_at_false g k c r x (an_equation i e p q h) = cc

decides_nothing : (f : Symbol) → FirstDecides f none → ⊥
decides_nothing f h = h

true_stays : (g : Data) → GoesTo g [] trueᵗ trueᵗ 0
true_stays g = by_all no_arguments (decides_nothing truth) (tries (unmatched_roots_stay g [] trueᵗ (nothing_at_true g)))

false_stays : (g : Data) → GoesTo g [] falseᵗ falseᵗ 0
false_stays g = by_all no_arguments (decides_nothing falsity) (tries (unmatched_roots_stay g [] falseᵗ (nothing_at_false g)))

not_looks_nowhere : LooksFirst negation → ⊥
not_looks_nowhere h = elim h [ ]

pub not_true_goes_to_false : NotTrueGoesToFalse
not_true_goes_to_false g = by_all (an_argument (true_stays g) no_arguments) (λ h. not_looks_nowhere h.0) (tries (used (omega arith) (a_line not_true refl) (without_condition refl) refl (false_stays g)))

pub false_is_normal : FalseIsNormal
false_is_normal g = (0, false_stays g)

pub the_last_numeral : TheLastNumeral
the_last_numeral g = (refl, (omega (arith, ints), omega arith))

pub no_numeral_behind_the_last : NoNumeralBehindTheLast
no_numeral_behind_the_last g vs s t z l h = let small = h.1.1 in omega (arith, l, small)
