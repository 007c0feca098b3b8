-- Consistency by values, and what consistent data tell apart.
use Rattle.std.proofs.Common.{◌≡◌, ◌≢◌, ℕ, ◌<◌, List, [], ◌∷◌, length, Bool, true, false, ◌==◌, refl, sym, ap, ◌∙◌, subst}
use Rattle.std.proofs.lemmas.Bool.Decides.{Decides-eqb}
use Rattle.data_theory.specs.Terms.{Sort, boolean, named, function, Term, Terms, numeral, application, none, more}
use Rattle.data_theory.specs.Declarations.{Data, function_at, projection, recogniser, IsSort, HasSort, HaveSorts, FitsRole, IsData}
use Rattle.data_theory.specs.Arithmetic.{equal_numbers}
use Rattle.data_theory.specs.Equations.{trueᵗ, truth_of, one, equals, all_equal, equal_numerals, different_constructors, same_constructor, projected, recognised, not_recognised}
use Rattle.data_theory.specs.Provable.{Equation, ProvablyEqual, PlacesEqual, ProvablyTrue, reflexive, symmetric, transitive, congruent, built_in, reflected, no_places, place}
use Rattle.data_theory.specs.Values.{truth_in, by_defaults}
use Rattle.data_theory.specs.ConsistencyLaws.{QuotientAndRemainder, SymbolsKeepSorts, TermsHaveValues, BuiltInEquationsHold, ProvablyEqualTermsHaveOneValue, ThereAreInterpretations, EquationsOfValuesAreConsistent, BuiltInEquationsAreConsistent, EqualNumeralsAreTheSame, DifferentNumeralsAreNotEqual, EqualConstructorsAreTheSame, ConstructorsAreInjective, ProjectionsCompute, RecognisersAccept, RecognisersReject}
use Rattle.data_theory.proofs.Numbers.{quotient_remainder, remainder_below}
use Rattle.data_theory.proofs.SameValues.{equal_numbers_tells}
use Rattle.data_theory.proofs.SortedValues.{symbol_is, value_is}
use Rattle.data_theory.proofs.ConstructedTerms.{some_value, some_values_keep}
use Rattle.data_theory.proofs.Soundness.{built_in_holds, provable_holds, empty_lists_hold}
use Rattle.data_theory.proofs.WellSorted.{function_within, sort_within, numeral_sort, sort_of_term}
use Rattle.data_theory.proofs.EqualityLemmas.{equals_has_sort, equals_of_equal}
use Rattle.data_theory.proofs.BooleanLemmas.{and_has_sort, true_has_sort, conjunction_true}

pub quotient_and_remainder : QuotientAndRemainder
quotient_and_remainder x y h = (quotient_remainder x y h, remainder_below x y h)

-- ---- values
pub symbols_keep_sorts : SymbolsKeepSorts
symbols_keep_sorts g m ok keeps f vs k h = symbol_is g m ok keeps f vs k h

pub terms_have_values : TermsHaveValues
terms_have_values g m ok keeps t s h = value_is g m ok keeps t s h

pub built_in_equations_hold : BuiltInEquationsHold
built_in_equations_hold g m ok keeps c l r line s h e = built_in_holds g m ok keeps line s h e

pub equal_terms_have_one_value : ProvablyEqualTermsHaveOneValue
equal_terms_have_one_value g m ok keeps own hold t u e = provable_holds g m ok keeps own hold e

pub there_are_interpretations : ThereAreInterpretations
there_are_interpretations g ok some = (some_value g ok some, some_values_keep g ok some)

pub equations_of_values_are_consistent : EquationsOfValuesAreConsistent
equations_of_values_are_consistent g m ok keeps own hold e =
    let same : true ≡ false = ap truth_in (provable_holds g m ok keeps own hold e) in cc

pub built_in_equations_are_consistent : BuiltInEquationsAreConsistent
built_in_equations_are_consistent g ok some own all =
    let value = some_value g ok some in
    equations_of_values_are_consistent g (by_defaults g value) ok (some_values_keep g ok some) own (empty_lists_hold g value own all)

-- ---- numerals
pub equal_numerals_are_the_same : EqualNumeralsAreTheSame
equal_numerals_are_the_same g own ok s x y h k e = by_test (equal_numbers x y) refl
  where
    sort_is : IsSort g s
    sort_is = numeral_sort g s x h.1

    compares_so : ProvablyEqual g own trueᵗ (truth_of (equal_numbers x y))
    compares_so = transitive (symmetric (equals_of_equal g own s (numeral s x) (numeral s y) sort_is h e)) (built_in boolean equal_numerals (equals_has_sort g s (numeral s x) (numeral s y) sort_is h k) reflexive)

    by_test : (b : Bool) → equal_numbers x y ≡ b → x ≡ y
    by_test true q = equal_numbers_tells x y q
    by_test false q = absurd (ok (subst (λ b. ProvablyEqual g own trueᵗ (truth_of b)) q compares_so))

pub different_numerals_are_not_equal : DifferentNumeralsAreNotEqual
different_numerals_are_not_equal g own ok s x y h k differ e = differ (equal_numerals_are_the_same g own ok s x y (refl, h) (refl, k) e)

-- ---- constructors
pub equal_constructors_are_the_same : EqualConstructorsAreTheSame
equal_constructors_are_the_same g own ok d b c xs ys sort p q h k e = by_test (b == c) refl
  where
    sort_is : IsSort g (named d)
    sort_is = sort_within g d sort

    by_test : (t : Bool) → (b == c) ≡ t → b ≡ c
    by_test true r = (Decides-eqb b c).0 r
    by_test false r =
        let different : b ≢ c = λ s. let y = (Decides-eqb b c).1 s in let z : true ≡ false = sym y ∙ r in cc in
        absurd (ok (transitive (symmetric (equals_of_equal g own (named d) (application (function b) xs) (application (function c) ys) sort_is h e))
        (built_in boolean (different_constructors sort p q different) (equals_has_sort g (named d) (application (function b) xs) (application (function c) ys) sort_is h k) reflexive)))

module _ (g : Data) (own : List Equation) (ok : IsData g) where
  -- the equalities of two lists of arguments are a Bool term
  all_equal_has_sort : (ss : List Sort) (xs ys : Terms) → HaveSorts g [] xs ss → HaveSorts g [] ys ss → HasSort g [] (all_equal ss xs ys) boolean
  all_equal_has_sort [] none none h k = true_has_sort g
  all_equal_has_sort (s ∷ []) (more x none) (more y none) h k = equals_has_sort g s x y (sort_of_term g ok x s h.0) h.0 k.0
  all_equal_has_sort (s ∷ r ∷ ss) (more x (more x' xs)) (more y (more y' ys)) h k =
      and_has_sort g (equals s x y) (all_equal (r ∷ ss) (more x' xs) (more y' ys)) (equals_has_sort g s x y (sort_of_term g ok x s h.0) h.0 k.0) (all_equal_has_sort (r ∷ ss) (more x' xs) (more y' ys) h.1 k.1)
  all_equal_has_sort [] (more x xs) ys h k = absurd h
  all_equal_has_sort [] none (more y ys) h k = absurd k
  all_equal_has_sort (s ∷ ss) none ys h k = absurd h
  all_equal_has_sort (s ∷ ss) (more x xs) none h k = absurd k
  all_equal_has_sort (s ∷ []) (more x (more x' xs)) ys h k = absurd h.1
  all_equal_has_sort (s ∷ []) (more x none) (more y (more y' ys)) h k = absurd k.1
  all_equal_has_sort (s ∷ r ∷ ss) (more x none) ys h k = absurd h.1
  all_equal_has_sort (s ∷ r ∷ ss) (more x (more x' xs)) (more y none) h k = absurd k.1

  -- where all these equalities are provably true, the arguments are provably equal
  places_of_all_equal : (ss : List Sort) (xs ys : Terms) → HaveSorts g [] xs ss → HaveSorts g [] ys ss → ProvablyTrue g own (all_equal ss xs ys) → PlacesEqual g own xs ys
  places_of_all_equal [] none none h k e = no_places
  places_of_all_equal (s ∷ []) (more x none) (more y none) h k e = place (reflected e) no_places
  places_of_all_equal (s ∷ r ∷ ss) (more x (more x' xs)) (more y (more y' ys)) h k e =
      let both = (conjunction_true g own (equals s x y) (all_equal (r ∷ ss) (more x' xs) (more y' ys)) (equals_has_sort g s x y (sort_of_term g ok x s h.0) h.0 k.0) (all_equal_has_sort (r ∷ ss) (more x' xs) (more y' ys) h.1 k.1)).0 e in
      place (reflected both.0) (places_of_all_equal (r ∷ ss) (more x' xs) (more y' ys) h.1 k.1 both.1)
  places_of_all_equal [] (more x xs) ys h k e = absurd h
  places_of_all_equal [] none (more y ys) h k e = absurd k
  places_of_all_equal (s ∷ ss) none ys h k e = absurd h
  places_of_all_equal (s ∷ ss) (more x xs) none h k e = absurd k
  places_of_all_equal (s ∷ []) (more x (more x' xs)) ys h k e = absurd h.1
  places_of_all_equal (s ∷ []) (more x none) (more y (more y' ys)) h k e = absurd k.1
  places_of_all_equal (s ∷ r ∷ ss) (more x none) ys h k e = absurd h.1
  places_of_all_equal (s ∷ r ∷ ss) (more x (more x' xs)) (more y none) h k e = absurd k.1

pub constructors_are_injective : ConstructorsAreInjective
constructors_are_injective g own ok d c xs ys sort p h k e =
    let i : IsSort g (named d) = sort_within g d sort in
    let left = application (function c) xs in
    let right = application (function c) ys in
    places_of_all_equal g own ok (function_at g c).arguments xs ys h.1 k.1
    (transitive (symmetric (built_in boolean (same_constructor sort p) (equals_has_sort g (named d) left right i h k) reflexive)) (equals_of_equal g own (named d) left right i h e))

-- ---- projections and recognisers
named_same : (d e : ℕ) → named d ≡ named e → d ≡ e
named_same d e q = ap (λ s. number_of s) q
  where
    number_of : Sort → ℕ
    number_of (named n) = n
    number_of _ = 0

module _ (g : Data) (own : List Equation) where
  -- a function of one argument, of the constructor's sort, applied to the constructor
  one_has_sort : (f d : ℕ) (t : Term) → f < length g.functions → (function_at g f).arguments ≡ named d ∷ [] → HasSort g [] t (named d) → HasSort g [] (one (function f) t) (function_at g f).result
  one_has_sort f d t l a h = (l, subst (HaveSorts g [] (more t none)) (sym a) (h, tt), refl, refl)

pub projections_compute : ProjectionsCompute
projections_compute g own ok d p c i t xs e h k =
    let within = function_within g p (projection c i) e (λ q. cc) in
    let fits = subst (FitsRole g (function_at g p)) e (ok.roles p within) in
    let same : named fits.0 ≡ named d = sym fits.3 ∙ h.2 in
    let sorts = fits.1 ∙ ap (λ s. s ∷ []) same in
    transitive (congruent (function p) (place k no_places)) (built_in (function_at g p).result (projected e) (one_has_sort g own p d (application (function c) xs) within sorts h) reflexive)

pub recognisers_accept : RecognisersAccept
recognisers_accept g own ok d r c t xs e h k =
    let within = function_within g r (recogniser c) e (λ q. cc) in
    let fits = subst (FitsRole g (function_at g r)) e (ok.roles r within) in
    let same : named fits.0 ≡ named d = sym fits.3 ∙ h.2 in
    let sorts = fits.1 ∙ ap (λ s. s ∷ []) same in
    transitive (congruent (function r) (place k no_places)) (built_in (function_at g r).result (recognised e) (one_has_sort g own r d (application (function c) xs) within sorts h) reflexive)

pub recognisers_reject : RecognisersReject
recognisers_reject g own ok d r b c t xs e q n result h k =
    let within = function_within g r (recogniser c) e (λ q. cc) in
    let fits = subst (FitsRole g (function_at g r)) e (ok.roles r within) in
    let same : named fits.0 ≡ named d = sym fits.3 ∙ result in
    let sorts = fits.1 ∙ ap (λ s. s ∷ []) same in
    transitive (congruent (function r) (place k no_places)) (built_in (function_at g r).result (not_recognised e q n) (one_has_sort g own r d (application (function b) xs) within sorts h) reflexive)
