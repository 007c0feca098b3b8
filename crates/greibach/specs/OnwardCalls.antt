-- The calls of what follows a label in its own body, over the table of places.
use Rattle.std.specs.Prelude.{◌≡◌, ◌<◌, ℕ, List, [], ◌∷◌, map, length, Option, None, Some, get_or}
use Rattle.std.specs.List.{All, AllZip, Contains}
use Rattle.data_theory.specs.declared.ids.VarId.{VarId}
use Rattle.data_theory.specs.declared.ids.TermId.{TermId}
use Rattle.data_theory.specs.IdTrees.{Tree, put_tree}
use Rattle.term_pool.specs.HeadTrees.{trees_at, AreIn}
use Rattle.term_pool.specs.Bindings.{listed}
use Rattle.greibach.specs.ListedVariables.{listed_variables}
use Rattle.greibach.specs.MeetingOrder.{IsNumberOf, Meets}
use Rattle.greibach.specs.PlacesInCode.{PlainPart, delta, call, PlainPlace, PlainPlaces}

abbrev pub no_place : PlainPlace
no_place = record { part = delta; rest = None; params = [] }

abbrev pub part_at : PlainPlaces → ℕ → PlainPart
part_at t n = (get_or t.places n no_place).part

abbrev pub rest_at : PlainPlaces → ℕ → Option ℕ
rest_at t n = (get_or t.places n no_place).rest

abbrev pub params_of_place : PlainPlaces → ℕ → List VarId
params_of_place t n = (get_or t.places n no_place).params

abbrev pub entry_place : PlainPlaces → ℕ → ℕ
entry_place t k = (get_or t.entries k (record { process = record { 0 = 0 }; place = 0; params = [] })).place

-- a call of a rest, where there is one, with the trees that are listed for its parameters
abbrev pub rest_trees : PlainPlaces → List Tree → List (VarId × TermId) → Option ℕ → List (ℕ × List Tree)
rest_trees t ts by None = []
rest_trees t ts by (Some n) = (n, map (listed ts by) (params_of_place t n)) ∷ []

-- a call that is kept, with what is put in for its arguments, and the rest behind it
abbrev pub kept_trees : PlainPlaces → List Tree → List (VarId × TermId) → ℕ → List TermId → Option ℕ → List (ℕ × List Tree)
kept_trees t ts by k ids rest = (entry_place t k, map (put_tree (listed ts by)) (trees_at ts ids)) ∷ rest_trees t ts by rest

-- a call at the beginning is kept, and the rest behind it is one call; else all of it is one
abbrev pub first_trees : PlainPlaces → List Tree → List (VarId × TermId) → ℕ → PlainPart → List (ℕ × List Tree)
first_trees t ts by n (call k ids) = kept_trees t ts by k ids (rest_at t n)
first_trees t ts by n _ = rest_trees t ts by (Some n)

abbrev pub onward_trees : PlainPlaces → List Tree → List (VarId × TermId) → Option ℕ → List (ℕ × List Tree)
onward_trees t ts by None = []
onward_trees t ts by (Some n) = first_trees t ts by n (part_at t n)

-- a call has the number of its place, and these trees as arguments
pub record IsTreeCall (ts : List Tree) (met : List ℕ) (wanted : ℕ × List Tree) (call : ℕ × List TermId) : Type 0 where
  pub number : IsNumberOf met wanted.0 call.0
  pub args : trees_at ts call.1 ≡ wanted.1

-- these are the wanted calls, whose places were met in their order
pub record AreTreeCalls (ts : List Tree) (wanted : List (ℕ × List Tree)) (old new : List ℕ) (calls : List (ℕ × List TermId)) : Type 0 where
  pub calls_are : AllZip (IsTreeCall ts new) wanted calls
  pub met : Meets old (map (λ w. w.0) wanted) new

-- the parameters of a rest are listed
abbrev pub RestIsListed : PlainPlaces → List (VarId × TermId) → Option ℕ → Type 0
RestIsListed t by None = Unit {0}
RestIsListed t by (Some n) = (n < length t.places) × All (λ (v : VarId). Contains (listed_variables by) v) (params_of_place t n)

-- the same for what is called onward
abbrev pub FirstIsListed : PlainPlaces → List Tree → List (VarId × TermId) → ℕ → PlainPart → Type 0
FirstIsListed t ts by n (call k ids) = (k < length t.entries) × AreIn ts ids × RestIsListed t by (rest_at t n)
FirstIsListed t ts by n _ = RestIsListed t by (Some n)

abbrev pub OnwardIsListed : PlainPlaces → List Tree → List (VarId × TermId) → Option ℕ → Type 0
OnwardIsListed t ts by None = Unit {0}
OnwardIsListed t ts by (Some n) = (n < length t.places) × FirstIsListed t ts by n (part_at t n)

-- a call has arguments of the pool, or among these terms
abbrev pub HasArgumentsIn : List Tree → ℕ × List TermId → Type 0
HasArgumentsIn ts c = AreIn ts c.1

abbrev pub HasArgumentsAmong : List TermId → ℕ × List TermId → Type 0
HasArgumentsAmong ids c = All (Contains ids) c.1
