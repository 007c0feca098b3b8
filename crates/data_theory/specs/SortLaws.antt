-- What the law on the sorts of provably equal terms says.
use Rattle.std.specs.Prelude.{◌↔◌, List, [], Contains}
use Rattle.data_theory.specs.Terms.{Sort, Term}
use Rattle.data_theory.specs.Declarations.{Data, HasSort, IsData}
use Rattle.data_theory.specs.Provable.{Equation, ProvablyEqual}
use Rattle.data_theory.specs.Rewriting.{IsWellFormed}

abbrev pub ProvablyEqualTermsHaveTheSameSort : Type 0
ProvablyEqualTermsHaveTheSameSort =
    (g : Data) (own : List Equation) → IsData g → ((q : Equation) → Contains own q → IsWellFormed g q)
    → (t u : Term) → ProvablyEqual g own t u → (s : Sort) → (HasSort g [] t s ↔ HasSort g [] u s)
