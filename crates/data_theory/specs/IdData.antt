-- Which data a signature means.
use Rattle.std.specs.Prelude.{◌+◌, ◌==◌, ℕ, Bool, false, cond, List, [], ◌∷◌, map, length, Option, Some, None, slice_get}
use Rattle.std.specs.List.{list_any, position}
use Rattle.data_theory.specs.declared.ids.FunId.{FunId}
use Rattle.data_theory.specs.Terms.{boolean}
use Rattle.data_theory.specs.Declarations as theory
use Rattle.data_theory.specs.Declarations.{Data, Role, constructor, projection, recogniser, mapping}
use Rattle.data_theory.specs.Sorts as sorts
use Rattle.data_theory.specs.Sorts.{Kind, SortInfo}
use Rattle.data_theory.specs.Functions.{Function}
use Rattle.data_theory.specs.Signature.{Sig}
use Rattle.data_theory.specs.IdSorts.{constructions, sort_meant}
use Rattle.data_theory.specs.IdSymbols.{if_declared, declared_from}

abbrev pub constructors_of : Kind → List FunId
constructors_of sorts.booleans = []
constructors_of sorts.positives = []
constructors_of sorts.naturals = []
constructors_of sorts.integers = []
constructors_of (sorts.lists_over e) = []
constructors_of sorts.without_constructors = []
constructors_of (sorts.by_declarations fs) = fs
constructors_of (sorts.structured fs) = fs

-- the function is a constructor of one of these sorts
abbrev pub is_constructor : List SortInfo → FunId → Bool
is_constructor ss i = list_any (λ (s : SortInfo). list_any (λ (j : FunId). i.0 == j.0) (constructors_of s.kind)) ss

abbrev pub is_this : FunId → Option FunId → Bool
is_this i None = false
is_this i (Some j) = i.0 == j.0

-- the projection of a constructor's place, where there is one
abbrev pub role_at_place : ℕ → Option ℕ → Role
role_at_place c None = mapping
role_at_place c (Some k) = projection c k

-- what a function is by the entry of a constructor, which has the number c among the declared functions
abbrev pub role_by : ℕ → Function → FunId → Role
role_by c f i = cond (is_this i f.test) (recogniser c) (role_at_place c (position (is_this i) f.projections))

-- the first of two roles, or the second where it is none
abbrev pub role_or : Role → Role → Role
role_or constructor r = constructor
role_or (projection c k) r = projection c k
role_or (recogniser c) r = recogniser c
role_or mapping r = r

-- what a function is by the entries of these, in front of which c functions are declared
abbrev pub role_among : ℕ → List Function → FunId → Role
role_among c [] i = mapping
role_among c (f ∷ fs) i = role_or (role_by c f i) (role_among (c + length (if_declared 0 f.word)) fs i)

abbrev pub role_meant : Sig → FunId → Role
role_meant g i = cond (is_constructor g.sorts i) constructor (role_among 0 g.functions i)

-- a function with the sorts that its numbers mean
abbrev pub function_at_meant : Sig → FunId → Option Function → theory.DeclaredFunction
function_at_meant g i None = record { arguments = []; result = boolean; role = mapping }
function_at_meant g i (Some f) = record { arguments = map (sort_meant g.sorts) f.sorts; result = sort_meant g.sorts f.result; role = role_meant g i }

abbrev pub function_meant : Sig → FunId → theory.DeclaredFunction
function_meant g i = function_at_meant g i (slice_get g.functions i.0)

-- the declared sorts and functions of a signature
abbrev pub data_meant : Sig → Data
data_meant g = record { sorts = constructions g.sorts; functions = map (function_meant g) (declared_from 0 g.functions) }
