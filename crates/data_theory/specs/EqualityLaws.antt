-- What the laws of provable equality say.
use Rattle.std.specs.Prelude.{◌≡◌, ◌↔◌, ℕ, ◌++◌, List, []}
use Rattle.std.specs.List.{Contains}
use Rattle.data_theory.specs.Terms.{Sort, Symbol, Term, Terms, apply, put, put_all}
use Rattle.data_theory.specs.Declarations.{Data, Construction, DeclaredFunction, HasSort, IsData}
use Rattle.data_theory.specs.Equations.{equals}
use Rattle.data_theory.specs.Provable.{Equation, ProvablyEqual, PlacesEqual, ProvablyTrue}

-- ---- an equivalence, on terms and on lists of terms
abbrev pub EqualityIsReflexive : Type 0
EqualityIsReflexive = (g : Data) (own : List Equation) (t : Term) → ProvablyEqual g own t t

abbrev pub EqualityIsSymmetric : Type 0
EqualityIsSymmetric = (g : Data) (own : List Equation) (t u : Term) → ProvablyEqual g own t u → ProvablyEqual g own u t

abbrev pub EqualityIsTransitive : Type 0
EqualityIsTransitive = (g : Data) (own : List Equation) (t u v : Term) → ProvablyEqual g own t u → ProvablyEqual g own u v → ProvablyEqual g own t v

abbrev pub PlacesAreReflexive : Type 0
PlacesAreReflexive = (g : Data) (own : List Equation) (ts : Terms) → PlacesEqual g own ts ts

abbrev pub PlacesAreSymmetric : Type 0
PlacesAreSymmetric = (g : Data) (own : List Equation) (ts us : Terms) → PlacesEqual g own ts us → PlacesEqual g own us ts

abbrev pub PlacesAreTransitive : Type 0
PlacesAreTransitive = (g : Data) (own : List Equation) (ts us vs : Terms) → PlacesEqual g own ts us → PlacesEqual g own us vs → PlacesEqual g own ts vs

-- ---- a congruence
abbrev pub EqualityIsACongruence : Type 0
EqualityIsACongruence = (g : Data) (own : List Equation) (f : Symbol) (ts us : Terms) → PlacesEqual g own ts us → ProvablyEqual g own (apply f ts) (apply f us)

-- ---- putting in
-- two environments give provably equal terms
abbrev pub EnvironmentsEqual : Data → List Equation → (ℕ → Term) → (ℕ → Term) → Type 0
EnvironmentsEqual g own d e = (v : ℕ) → ProvablyEqual g own (d v) (e v)

abbrev pub PuttingInRespectsEquality : Type 0
PuttingInRespectsEquality = (g : Data) (own : List Equation) (d e : ℕ → Term) → EnvironmentsEqual g own d e → (t : Term) → ProvablyEqual g own (put d t) (put e t)

abbrev pub PuttingAllInRespectsEquality : Type 0
PuttingAllInRespectsEquality = (g : Data) (own : List Equation) (d e : ℕ → Term) → EnvironmentsEqual g own d e → (ts : Terms) → PlacesEqual g own (put_all d ts) (put_all e ts)

-- ---- `==` is provable equality
-- also that `x == x` is provably true
abbrev pub EqualsIsProvableEquality : Type 0
EqualsIsProvableEquality = (g : Data) (own : List Equation) → IsData g → (s : Sort) (x y : Term) → HasSort g [] x s → HasSort g [] y s → (ProvablyTrue g own (equals s x y) ↔ ProvablyEqual g own x y)

abbrev pub EqualsItself : Type 0
EqualsItself = (g : Data) (own : List Equation) → IsData g → (s : Sort) (x : Term) → HasSort g [] x s → ProvablyTrue g own (equals s x x)

-- ---- growth
-- further sorts and functions stand behind the old ones, which keep their numbers
pub record Grows (g h : Data) : Type 0 where
  pub new_sorts : List Construction
  pub new_functions : List DeclaredFunction
  pub sorts : h.sorts ≡ g.sorts ++ new_sorts
  pub functions : h.functions ≡ g.functions ++ new_functions

-- each written equation is still there
abbrev pub AreAmong : List Equation → List Equation → Type 0
AreAmong own more = (q : Equation) → Contains own q → Contains more q

abbrev pub GrowthKeepsDerivations : Type 0
GrowthKeepsDerivations = (g h : Data) → Grows g h → (own more : List Equation) → AreAmong own more → (t u : Term) → ProvablyEqual g own t u → ProvablyEqual h more t u

abbrev pub GrowthKeepsSorts : Type 0
GrowthKeepsSorts = (g h : Data) → Grows g h → (vs : List Sort) (t : Term) (s : Sort) → HasSort g vs t s → HasSort h vs t s
