-- Provable equality of closed terms, and consistent data.
use Rattle.std.specs.Prelude.{◌≡◌, ℕ, List, [], ◌++◌}
use Rattle.std.specs.List.{Contains}
use Rattle.data_theory.specs.Terms.{Sort, list, Symbol, function, Term, Terms, application, none, more, apply, put, variables_of}
use Rattle.data_theory.specs.Declarations.{Data, function_at, mapping, Declares, HasSort}
use Rattle.data_theory.specs.Equations.{BuiltIn, trueᵗ, falseᵗ, equals, emptyᵗ}

-- a written equation `condition -> left = right` over the variables 0, 1, .. of these sorts; a condition that isn't written
-- is `true`
pub record Equation : Type 0 where
  pub sorts : List Sort
  pub condition : Term
  pub left : Term
  pub right : Term

abbrev pub variables_of_equation : Equation → List ℕ
variables_of_equation q = variables_of q.condition ++ (variables_of q.left ++ variables_of q.right)

-- each variable that occurs in the equation has a sort there, and a closed term of it
abbrev pub IsClosedInstance : Data → Equation → (ℕ → Term) → Type 0
IsClosedInstance g q e = (v : ℕ) → Contains (variables_of_equation q) v → (s : Sort) × Declares q.sorts v s × HasSort g [] (e v) s

-- Two closed terms are provably equal over the data g and the written equations `own`: a constructor for each rule.
mutual
  pub data ProvablyEqual (g : Data) (own : List Equation) : Term → Term → Type 0 where
    reflexive : {t : Term} → ProvablyEqual g own t t
    symmetric : {t u : Term} → ProvablyEqual g own t u → ProvablyEqual g own u t
    transitive : {t u v : Term} → ProvablyEqual g own t u → ProvablyEqual g own u v → ProvablyEqual g own t v
    congruent : (f : Symbol) {ts us : Terms} → PlacesEqual g own ts us → ProvablyEqual g own (apply f ts) (apply f us)
    built_in : {c l r : Term} (s : Sort) → BuiltIn g c l r → HasSort g [] l s → ProvablyEqual g own c trueᵗ → ProvablyEqual g own l r
    written : (q : Equation) (e : ℕ → Term) → Contains own q → IsClosedInstance g q e → ProvablyEqual g own (put e q.condition) trueᵗ → ProvablyEqual g own (put e q.left) (put e q.right)
    reflected : {s : Sort} {t u : Term} → ProvablyEqual g own (equals s t u) trueᵗ → ProvablyEqual g own t u

  -- two lists of closed terms, provably equal place by place
  pub data PlacesEqual (g : Data) (own : List Equation) : Terms → Terms → Type 0 where
    no_places : PlacesEqual g own none none
    place : {t u : Term} {ts us : Terms} → ProvablyEqual g own t u → PlacesEqual g own ts us → PlacesEqual g own (more t ts) (more u us)

abbrev pub ProvablyTrue : Data → List Equation → Term → Type 0
ProvablyTrue g own t = ProvablyEqual g own t trueᵗ

abbrev pub ProvablyFalse : Data → List Equation → Term → Type 0
ProvablyFalse g own t = ProvablyEqual g own t falseᵗ

-- `true` isn't provably `false`
abbrev pub Consistent : Data → List Equation → Type 0
Consistent g own = ProvablyEqual g own trueᵗ falseᵗ → ⊥

-- the equation `n = []` of a mapping n without arguments
pub record IsEmptyList (g : Data) (q : Equation) : Type 0 where
  pub map : ℕ
  pub element : Sort
  pub role : (function_at g map).role ≡ mapping
  pub result : (function_at g map).result ≡ list element
  pub left : q.left ≡ application (function map) none
  pub right : q.right ≡ emptyᵗ element
