-- Worked derivations, as checks of the definitions.
use Rattle.std.specs.Prelude.{◌-◌, ◌≤◌, ◌^◌, List, [], ◌∷◌, ℤ, pos}
use Rattle.std.specs.List.{All}
use Rattle.data_theory.specs.Terms.{Sort, boolean, positive, natural, list, named, head, membership, function, Term, variable, numeral, application, none}
use Rattle.data_theory.specs.Declarations.{Data, constructor, projection, recogniser, mapping, without_constructors, structured, HasSort, IsData, NoSortIsEmpty}
use Rattle.data_theory.specs.Arithmetic.{magnitude}
use Rattle.data_theory.specs.Equations.{ !ᵗ◌, trueᵗ, falseᵗ, one, two, equals, emptyᵗ, consᵗ}
use Rattle.data_theory.specs.Rewriting.{GoesTo, IsNormal}
use Rattle.data_theory.specs.Provable.{Equation, ProvablyEqual, ProvablyTrue, ProvablyFalse, Consistent, IsEmptyList}

-- the numerals 1, 2 and 3 of sort Pos
abbrev pub one_pos : Term
one_pos = numeral positive (pos 1)

abbrev pub two_pos : Term
two_pos = numeral positive (pos 2)

abbrev pub three_pos : Term
three_pos = numeral positive (pos 3)

-- 2 in [1, 2]
abbrev pub TwoIsInOneTwo : Type 0
TwoIsInOneTwo = (g : Data) (own : List Equation) → ProvablyTrue g own (two (membership positive) two_pos (consᵗ positive one_pos (consᵗ positive two_pos (emptyᵗ positive))))

-- head([3]) == 3
abbrev pub HeadOfThree : Type 0
HeadOfThree = (g : Data) (own : List Equation) → ProvablyTrue g own (equals positive (one (head positive) (consᵗ positive three_pos (emptyᵗ positive))) three_pos)

-- 1 == 2
abbrev pub OneIsNotTwo : Type 0
OneIsNotTwo = (g : Data) (own : List Equation) → ProvablyFalse g own (equals positive one_pos two_pos)

-- sort T = struct n(Nat);
abbrev pub wrapped_numbers : Data
wrapped_numbers = record {
  sorts = structured ∷ [];
  functions = record { arguments = natural ∷ []; result = named 0; role = constructor } ∷ [];
}

-- where n(x) == n(y), x and y are provably equal
abbrev pub WrappedNumbersTell : Type 0
WrappedNumbersTell =
    (own : List Equation) (x y : Term) → HasSort wrapped_numbers [] x natural → HasSort wrapped_numbers [] y natural
    → ProvablyTrue wrapped_numbers own (equals (named 0) (one (function 0) x) (one (function 0) y)) → ProvablyEqual wrapped_numbers own x y

-- map f, g: Nat -> Nat; var x: Nat; eqn f(x) = g(x);
abbrev pub two_mappings : Data
two_mappings = record {
  sorts = [];
  functions =
      record { arguments = natural ∷ []; result = natural; role = mapping }
      ∷ record { arguments = natural ∷ []; result = natural; role = mapping }
      ∷ [];
}

abbrev pub first_is_second : Equation
first_is_second = record { sorts = natural ∷ []; condition = trueᵗ; left = one (function 0) (variable 0); right = one (function 1) (variable 0) }

-- f(t) == g(t)
abbrev pub MappingsAreEqual : Type 0
MappingsAreEqual = (t : Term) → HasSort two_mappings [] t natural → ProvablyTrue two_mappings (first_is_second ∷ []) (equals natural (one (function 0) t) (one (function 1) t))

-- eqn true = false;
abbrev pub true_is_false : Equation
true_is_false = record { sorts = []; condition = trueᵗ; left = trueᵗ; right = falseᵗ }

abbrev pub TrueIsFalseIsInconsistent : Type 0
TrueIsFalseIsInconsistent = (g : Data) → Consistent g (true_is_false ∷ []) → ⊥

-- sort D = struct d1 | d2(n: Nat)?is_d2; E; map m: List(Bool); eqn m = [];
abbrev pub small_data : Data
small_data = record {
  sorts = structured ∷ without_constructors ∷ [];
  functions =
      record { arguments = []; result = named 0; role = constructor }
      ∷ record { arguments = natural ∷ []; result = named 0; role = constructor }
      ∷ record { arguments = named 0 ∷ []; result = natural; role = projection 1 0 }
      ∷ record { arguments = named 0 ∷ []; result = boolean; role = recogniser 1 }
      ∷ record { arguments = []; result = list boolean; role = mapping }
      ∷ [];
}

abbrev pub small_equations : List Equation
small_equations = record { sorts = []; condition = trueᵗ; left = application (function 4) none; right = emptyᵗ boolean } ∷ []

-- every premise of the law on consistency
pub record MeetThePremises (g : Data) (own : List Equation) : Type 0 where
  pub data_are : IsData g
  pub no_sort_is_empty : NoSortIsEmpty g
  pub empty_lists : All (IsEmptyList g) own

abbrev pub SmallDataMeetThePremises : Type 0
SmallDataMeetThePremises = MeetThePremises small_data small_equations

abbrev pub SmallDataAreConsistent : Type 0
SmallDataAreConsistent = Consistent small_data small_equations

-- without written equations `!true` goes to `false` by one use, and `false` is normal
abbrev pub NotTrueGoesToFalse : Type 0
NotTrueGoesToFalse = (g : Data) → GoesTo g [] (!ᵗ trueᵗ) falseᵗ 1

abbrev pub FalseIsNormal : Type 0
FalseIsNormal = (g : Data) → IsNormal g [] falseᵗ

-- 2^128 - 1 has a numeral of Nat, and nothing greater has one: a `sum` over Nat has no instance for 2^128
abbrev pub TheLastNumeral : Type 0
TheLastNumeral = (g : Data) → HasSort g [] (numeral natural (pos (2 ^ 128 - 1))) natural

abbrev pub NoNumeralBehindTheLast : Type 0
NoNumeralBehindTheLast = (g : Data) (vs : List Sort) (s t : Sort) (z : ℤ) → 2 ^ 128 ≤ magnitude z → HasSort g vs (numeral s z) t → ⊥
