-- What the laws on values and on consistent data say.
use Rattle.std.specs.Prelude.{◌≡◌, ◌≢◌, ℕ, ◌<◌, List, [], true, ℤ, pos, ◌+ℤ◌, ◌*ℤ◌}
use Rattle.std.specs.List.{All}
use Rattle.data_theory.specs.Terms.{Sort, named, Symbol, function, Term, Terms, numeral, application}
use Rattle.data_theory.specs.Declarations.{Data, function_at, sort_at, structured, constructor, projection, recogniser, argument_sorts, result_sort, IsSymbol, HasNumeral, HasSort, IsData, NoSortIsEmpty}
use Rattle.data_theory.specs.Arithmetic.{quotient, remainder}
use Rattle.data_theory.specs.Equations.{BuiltIn, one, term_at}
use Rattle.data_theory.specs.Provable.{Equation, ProvablyEqual, PlacesEqual, ProvablyTrue, ProvablyFalse, Consistent, IsEmptyList}
use Rattle.data_theory.specs.Values.{Value, Values, a_truth, Interpretation, by_defaults, value, symbol_value, IsValue, AreValues, KeepsSorts, HoldOfValues}

-- ---- numbers
abbrev pub QuotientAndRemainder : Type 0
QuotientAndRemainder = (x : ℤ) (y : ℕ) → 0 < y → ((quotient x y *ℤ pos y) +ℤ pos (remainder x y) ≡ x) × (remainder x y < y)

-- ---- values
abbrev pub SymbolsKeepSorts : Type 0
SymbolsKeepSorts = (g : Data) (m : Interpretation) → IsData g → KeepsSorts g m → (f : Symbol) (vs : Values) → IsSymbol g f → AreValues g (argument_sorts g f) vs → IsValue g (result_sort g f) (symbol_value g m f vs)

abbrev pub TermsHaveValues : Type 0
TermsHaveValues = (g : Data) (m : Interpretation) → IsData g → KeepsSorts g m → (t : Term) (s : Sort) → HasSort g [] t s → IsValue g s (value g m t)

abbrev pub BuiltInEquationsHold : Type 0
BuiltInEquationsHold = (g : Data) (m : Interpretation) → IsData g → KeepsSorts g m → (c l r : Term) → BuiltIn g c l r → (s : Sort) → HasSort g [] l s → value g m c ≡ a_truth true → value g m l ≡ value g m r

abbrev pub ProvablyEqualTermsHaveOneValue : Type 0
ProvablyEqualTermsHaveOneValue = (g : Data) (m : Interpretation) → IsData g → KeepsSorts g m → (own : List Equation) → HoldOfValues g m own → (t u : Term) → ProvablyEqual g own t u → value g m t ≡ value g m u

abbrev pub ThereAreInterpretations : Type 0
ThereAreInterpretations = (g : Data) → IsData g → NoSortIsEmpty g → (some : ℕ → Value) × KeepsSorts g (by_defaults g some)

-- ---- consistency
abbrev pub EquationsOfValuesAreConsistent : Type 0
EquationsOfValuesAreConsistent = (g : Data) (m : Interpretation) → IsData g → KeepsSorts g m → (own : List Equation) → HoldOfValues g m own → Consistent g own

abbrev pub BuiltInEquationsAreConsistent : Type 0
BuiltInEquationsAreConsistent = (g : Data) → IsData g → NoSortIsEmpty g → (own : List Equation) → All (IsEmptyList g) own → Consistent g own

-- ---- over consistent data
abbrev pub EqualNumeralsAreTheSame : Type 0
EqualNumeralsAreTheSame = (g : Data) (own : List Equation) → Consistent g own → (s : Sort) (x y : ℤ) → HasSort g [] (numeral s x) s → HasSort g [] (numeral s y) s → ProvablyEqual g own (numeral s x) (numeral s y) → x ≡ y

abbrev pub DifferentNumeralsAreNotEqual : Type 0
DifferentNumeralsAreNotEqual = (g : Data) (own : List Equation) → Consistent g own → (s : Sort) (x y : ℤ) → HasNumeral s x → HasNumeral s y → x ≢ y → ProvablyEqual g own (numeral s x) (numeral s y) → ⊥

abbrev pub EqualConstructorsAreTheSame : Type 0
EqualConstructorsAreTheSame =
    (g : Data) (own : List Equation) → Consistent g own → (d b c : ℕ) (xs ys : Terms) → sort_at g d ≡ structured
    → (function_at g b).role ≡ constructor → (function_at g c).role ≡ constructor
    → HasSort g [] (application (function b) xs) (named d) → HasSort g [] (application (function c) ys) (named d)
    → ProvablyEqual g own (application (function b) xs) (application (function c) ys) → b ≡ c

-- ---- over any data
abbrev pub ConstructorsAreInjective : Type 0
ConstructorsAreInjective =
    (g : Data) (own : List Equation) → IsData g → (d c : ℕ) (xs ys : Terms) → sort_at g d ≡ structured → (function_at g c).role ≡ constructor
    → HasSort g [] (application (function c) xs) (named d) → HasSort g [] (application (function c) ys) (named d)
    → ProvablyEqual g own (application (function c) xs) (application (function c) ys) → PlacesEqual g own xs ys

abbrev pub ProjectionsCompute : Type 0
ProjectionsCompute =
    (g : Data) (own : List Equation) → IsData g → (d p c i : ℕ) (t : Term) (xs : Terms) → (function_at g p).role ≡ projection c i
    → HasSort g [] (application (function c) xs) (named d) → ProvablyEqual g own t (application (function c) xs)
    → ProvablyEqual g own (one (function p) t) (term_at xs i)

abbrev pub RecognisersAccept : Type 0
RecognisersAccept =
    (g : Data) (own : List Equation) → IsData g → (d r c : ℕ) (t : Term) (xs : Terms) → (function_at g r).role ≡ recogniser c
    → HasSort g [] (application (function c) xs) (named d) → ProvablyEqual g own t (application (function c) xs)
    → ProvablyTrue g own (one (function r) t)

abbrev pub RecognisersReject : Type 0
RecognisersReject =
    (g : Data) (own : List Equation) → IsData g → (d r b c : ℕ) (t : Term) (xs : Terms) → (function_at g r).role ≡ recogniser c
    → (function_at g b).role ≡ constructor → b ≢ c → (function_at g c).result ≡ named d
    → HasSort g [] (application (function b) xs) (named d) → ProvablyEqual g own t (application (function b) xs)
    → ProvablyFalse g own (one (function r) t)
