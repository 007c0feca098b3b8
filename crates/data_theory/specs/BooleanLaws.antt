-- What is provable of `!`, `&&`, `||`, `=>` and `if`.
use Rattle.std.specs.Prelude.{◌↔◌, List, []}
use Rattle.data_theory.specs.Terms.{Sort, boolean, Term}
use Rattle.data_theory.specs.Declarations.{Data, IsSort, HasSort}
use Rattle.data_theory.specs.Equations.{ !ᵗ◌, ◌∧ᵗ◌, ◌∨ᵗ◌, ◌⇒ᵗ◌, chooses}
use Rattle.data_theory.specs.Provable.{Equation, ProvablyEqual, ProvablyTrue, ProvablyFalse}

-- ---- negation
abbrev pub NegationIsTrue : Type 0
NegationIsTrue = (g : Data) (own : List Equation) (x : Term) → HasSort g [] x boolean → (ProvablyTrue g own (!ᵗ x) ↔ ProvablyFalse g own x)

abbrev pub NegationIsFalse : Type 0
NegationIsFalse = (g : Data) (own : List Equation) (x : Term) → HasSort g [] x boolean → (ProvablyFalse g own (!ᵗ x) ↔ ProvablyTrue g own x)

-- ---- conjunction
abbrev pub ConjunctionIsTrue : Type 0
ConjunctionIsTrue = (g : Data) (own : List Equation) (x y : Term) → HasSort g [] x boolean → HasSort g [] y boolean → (ProvablyTrue g own (x ∧ᵗ y) ↔ (ProvablyTrue g own x × ProvablyTrue g own y))

abbrev pub ConjunctionWithFalse : Type 0
ConjunctionWithFalse = (g : Data) (own : List Equation) (x y : Term) → HasSort g [] y boolean → ProvablyFalse g own x → ProvablyFalse g own (x ∧ᵗ y)

abbrev pub ConjunctionBeforeFalse : Type 0
ConjunctionBeforeFalse = (g : Data) (own : List Equation) (x y : Term) → HasSort g [] x boolean → ProvablyFalse g own y → ProvablyFalse g own (x ∧ᵗ y)

-- ---- disjunction
abbrev pub DisjunctionIsFalse : Type 0
DisjunctionIsFalse = (g : Data) (own : List Equation) (x y : Term) → HasSort g [] x boolean → HasSort g [] y boolean → (ProvablyFalse g own (x ∨ᵗ y) ↔ (ProvablyFalse g own x × ProvablyFalse g own y))

abbrev pub DisjunctionWithTrue : Type 0
DisjunctionWithTrue = (g : Data) (own : List Equation) (x y : Term) → HasSort g [] y boolean → ProvablyTrue g own x → ProvablyTrue g own (x ∨ᵗ y)

abbrev pub DisjunctionBeforeTrue : Type 0
DisjunctionBeforeTrue = (g : Data) (own : List Equation) (x y : Term) → HasSort g [] x boolean → ProvablyTrue g own y → ProvablyTrue g own (x ∨ᵗ y)

abbrev pub DisjunctionWithFalse : Type 0
DisjunctionWithFalse = (g : Data) (own : List Equation) (x y : Term) → HasSort g [] y boolean → ProvablyFalse g own x → ProvablyEqual g own (x ∨ᵗ y) y

abbrev pub DisjunctionBeforeFalse : Type 0
DisjunctionBeforeFalse = (g : Data) (own : List Equation) (x y : Term) → HasSort g [] x boolean → ProvablyFalse g own y → ProvablyEqual g own (x ∨ᵗ y) x

-- ---- implication
abbrev pub ImplicationFromTrue : Type 0
ImplicationFromTrue = (g : Data) (own : List Equation) (x y : Term) → HasSort g [] y boolean → ProvablyTrue g own x → ProvablyEqual g own (x ⇒ᵗ y) y

abbrev pub ImplicationFromFalse : Type 0
ImplicationFromFalse = (g : Data) (own : List Equation) (x y : Term) → HasSort g [] y boolean → ProvablyFalse g own x → ProvablyTrue g own (x ⇒ᵗ y)

-- ---- if
abbrev pub IfTrue : Type 0
IfTrue = (g : Data) (own : List Equation) (s : Sort) (b x y : Term) → IsSort g s → HasSort g [] x s → HasSort g [] y s → ProvablyTrue g own b → ProvablyEqual g own (chooses s b x y) x

abbrev pub IfFalse : Type 0
IfFalse = (g : Data) (own : List Equation) (s : Sort) (b x y : Term) → IsSort g s → HasSort g [] x s → HasSort g [] y s → ProvablyFalse g own b → ProvablyEqual g own (chooses s b x y) y
