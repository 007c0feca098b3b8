-- Parts of a condition that give a term for a sum variable.
use Rattle.std.specs.Prelude.{◌≡◌, ◌==◌, ℕ, Bool, true, false, List, [], ◌∷◌, cond, Option, Some, None, Contains}
use Rattle.std.specs.List.{AllByRecursion}
use Rattle.data_theory.specs.Terms.{Sort, equality, Term, variable, application, none, more, variables_of}
use Rattle.data_theory.specs.Equations.{equals}
use Rattle.data_theory.specs.Environments.{Binding}

-- a part gives the term t for the variable v where it is an `==` of both
pub data Gives : Term → ℕ → Term → Type 0 where
  on_the_left : {s : Sort} {v : ℕ} {t : Term} → Gives (equals s (variable v) t) v t
  on_the_right : {s : Sort} {v : ℕ} {t : Term} → Gives (equals s t (variable v)) v t

-- it is solvable for one of these variables where that one isn't in the term
pub record IsSolvable (xs : List ℕ) (p : Term) (b : Binding) : Type 0 where
  pub gives : Gives p b.var b.term
  pub among : Contains xs b.var
  pub absent : Contains (variables_of b.term) b.var → ⊥

-- ---- which variable and term a part gives
abbrev pub is_among : ℕ → List ℕ → Bool
is_among v [] = false
is_among v (x ∷ xs) = cond (x == v) true (is_among v xs)

-- the term of the other side, for a side that is one of the variables
abbrev pub side : List ℕ → Term → Term → Option Binding
side xs (variable v) t = cond (is_among v xs) (cond (is_among v (variables_of t)) None (Some (record { var = v; term = t }))) None
side xs _ t = None

abbrev pub or_else : Option Binding → Option Binding → Option Binding
or_else (Some b) o = Some b
or_else None o = o

-- where both sides are such variables, the left one counts
abbrev pub solution : List ℕ → Term → Option Binding
solution xs (application (equality s) (more a (more b none))) = or_else (side xs a b) (side xs b a)
solution xs _ = None

-- the first solvable part of a list, with the parts that stay
pub data IsFirst (xs : List ℕ) : List Term → Binding → List Term → Type 0 where
  it_is_first : {c : Term} {cs : List Term} {b : Binding} → solution xs c ≡ Some b → IsFirst xs (c ∷ cs) b cs
  it_is_later : {c : Term} {cs rest : List Term} {b : Binding} → solution xs c ≡ None → IsFirst xs cs b rest → IsFirst xs (c ∷ cs) b (c ∷ rest)

-- no part is solvable
abbrev pub NoneGives : List ℕ → List Term → Type 0
NoneGives xs cs = AllByRecursion (λ c. solution xs c ≡ None) cs
