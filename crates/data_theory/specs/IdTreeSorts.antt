-- The sorts of trees over the numbers of a signature.
use Rattle.std.specs.Prelude.{◌≡◌, ◌⊎◌, ◌<◌, ◌^◌, List, [], ◌∷◌, Some, slice_get, ℤ, pos, ◌≤ℤ◌}
use Rattle.data_theory.specs.Arithmetic.{magnitude}
use Rattle.data_theory.specs.declared.ids.SortId.{SortId}
use Rattle.data_theory.specs.declared.ids.VarId.{VarId}
use Rattle.data_theory.specs.declared.signature.Variable.{Variable}
use Rattle.data_theory.specs.Functions.{Function, arguments_of}
use Rattle.data_theory.specs.Table.{pos_sort, nat_sort, int_sort}
use Rattle.data_theory.specs.Signature.{Sig}
use Rattle.data_theory.specs.IdTrees.{Tree, Trees, variable, numeral, function, none, more, apply_tree}

-- the sort is Pos, Nat or Int and has this number
abbrev pub IsNumberIn : SortId → ℤ → Type 0
IsNumberIn s z = ((s ≡ pos_sort) × (pos 1 ≤ℤ z)) ⊎ (((s ≡ nat_sort) × (pos 0 ≤ℤ z)) ⊎ (s ≡ int_sort))

-- the sort has this number, and the number a numeral: its magnitude is at most 2^128 - 1
abbrev pub HasNumber : SortId → ℤ → Type 0
HasNumber s z = IsNumberIn s z × (magnitude z < 2 ^ 128)

-- the sort of a variable in a signature
abbrev pub IsVariableOf : Sig → VarId → SortId → Type 0
IsVariableOf g v s = (x : Variable) × (slice_get g.variables v.0 ≡ Some x) × (x.sort ≡ s)

-- A tree of a sort: its functions fit their arguments, and nothing in it merges.
abbrev mutual
  pub HasTreeSort : Sig → Tree → SortId → Type 0
  HasTreeSort g (variable v) s = IsVariableOf g v s
  HasTreeSort g (numeral a z) s = (a ≡ s) × HasNumber a z
  HasTreeSort g (function f ts) s = (e : Function) × (slice_get g.functions f.0 ≡ Some e) × (e.result ≡ s) × HaveTreeSorts g ts (arguments_of e) × (apply_tree f ts ≡ function f ts)

  pub HaveTreeSorts : Sig → Trees → List SortId → Type 0
  HaveTreeSorts g none [] = Unit {0}
  HaveTreeSorts g (more t ts) (s ∷ ss) = HasTreeSort g t s × HaveTreeSorts g ts ss
  HaveTreeSorts g none (s ∷ ss) = ⊥
  HaveTreeSorts g (more t ts) [] = ⊥
