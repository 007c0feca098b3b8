-- When a linear process fits a pool and a signature.
use Rattle.std.specs.Prelude.{◌≡◌, ◌<◌, List, [], map, length, Some, IfSome, slice_get, get_or}
use Rattle.std.specs.List.{All, Contains}
use Rattle.data_theory.specs.Declarations.{HaveSorts}
use Rattle.data_theory.specs.Environments.{terms_of}
use Rattle.data_theory.specs.declared.ids.SortId.{SortId}
use Rattle.data_theory.specs.declared.ids.VarId.{VarId}
use Rattle.data_theory.specs.declared.ids.TermId.{TermId}
use Rattle.data_theory.specs.declared.signature.Variable.{Variable}
use Rattle.data_theory.specs.Keys.{Key}
use Rattle.data_theory.specs.Table.{bool_sort}
use Rattle.data_theory.specs.Signature.{Sig}
use Rattle.data_theory.specs.Complete.{IsComplete}
use Rattle.data_theory.specs.IdTables.{IsTable}
use Rattle.data_theory.specs.IdData.{data_meant}
use Rattle.data_theory.specs.IdTrees.{Tree, trees_of}
use Rattle.data_theory.specs.IdTreeSorts.{HasTreeSort, HaveTreeSorts}
use Rattle.data_theory.specs.IdTerms.{variable_sorts}
use Rattle.term_pool.specs.HeadTrees.{tree_at, trees_at, IsIn, AreIn}
use Rattle.process_terms.specs.PlainProcesses.{PlainAction}
use Rattle.process_terms.specs.SignatureEntries.{entries_of, BothGrow}
use Rattle.bisim_laws.specs.LinearProcesses.{IsLinear, IsWellSorted, sorts}
use Rattle.lps_core.specs.PlainLinears.{PlainSummand, PlainLinear, linear_of, initial_of}

-- a term of the pool with a sort of the signature, and a list of terms
pub record IsTermOf (g : Sig) (ts : List Tree) (s : SortId) (id : TermId) : Type 0 where
  pub within : IsIn ts id
  pub sorted : HasTreeSort g (tree_at ts id) s

pub record AreTermsOf (g : Sig) (ts : List Tree) (ss : List SortId) (ids : List TermId) : Type 0 where
  pub within : AreIn ts ids
  pub sorted : HaveTreeSorts g (trees_of (trees_at ts ids)) ss

pub record IsActionOf (g : Sig) (ts : List Tree) (a : PlainAction) : Type 0 where
  pub key : Key
  pub stands : slice_get g.actions a.act.0 ≡ Some key
  pub args : AreTermsOf g ts key.sorts a.args

abbrev pub IsVariable : Sig → VarId → Type 0
IsVariable g v = v.0 < length g.variables

-- the sorts of variables, by their numbers
abbrev pub sort_of_variable : Sig → VarId → SortId
sort_of_variable g v = (get_or g.variables v.0 (record { name = record { 0 = 0 }; sort = bool_sort })).sort

pub record SummandFits (g : Sig) (ts : List Tree) (params : List VarId) (s : PlainSummand) : Type 0 where
  pub sums : All (IsVariable g) s.sums
  pub condition : IsTermOf g ts bool_sort s.condition
  pub label : All (IsActionOf g ts) s.label
  pub next : IfSome s.next (AreTermsOf g ts (map (sort_of_variable g) params))

-- the name of a variable is taken
abbrev pub HasTakenName : Sig → VarId → Type 0
HasTakenName g v = IfSome (slice_get g.variables v.0) (λ (x : Variable). Contains g.taken x.name)

-- The ids are those of the pool and the signature, the terms have their sorts and no other variables, and the names are taken.
-- The initial terms are closed: they have their sorts over no variables.
pub record Fits (g : Sig) (ts : List Tree) (l : PlainLinear) : Type 0 where
  pub params : All (IsVariable g) l.params
  pub init : AreTermsOf g ts (map (sort_of_variable g) l.params) l.init
  pub closed : HaveSorts (data_meant g) [] (terms_of (initial_of (entries_of g ts) l)) (sorts (linear_of (entries_of g ts) l).params)
  pub summands : All (SummandFits g ts l.params) l.summands
  pub linear : IsLinear (linear_of (entries_of g ts) l)
  pub taken : All (HasTakenName g) l.params
  pub sums_taken : All (λ (s : PlainSummand). All (HasTakenName g) s.sums) l.summands

-- ---- laws
-- what fits is well sorted
abbrev pub WhatFitsIsSorted : Type 0
WhatFitsIsSorted = (g : Sig) (ts : List Tree) (l : PlainLinear) → IsTable g → IsComplete g → Fits g ts l → IsWellSorted (data_meant g) (variable_sorts g) (linear_of (entries_of g ts) l)

-- where the signature and the pool grow, it means what it meant
abbrev pub WhatFitsStays : Type 0
WhatFitsStays =
    (g h : Sig) (ts us : List Tree) (l : PlainLinear) → IsTable g → IsComplete g → BothGrow g h ts us → Fits g ts l
    → (linear_of (entries_of h us) l ≡ linear_of (entries_of g ts) l) × (initial_of (entries_of h us) l ≡ initial_of (entries_of g ts) l)

-- and it fits still
abbrev pub WhatFitsFitsStill : Type 0
WhatFitsFitsStill =
    (g h : Sig) (ts us : List Tree) (l : PlainLinear) → IsTable g → IsComplete g → IsTable h → BothGrow g h ts us → Fits g ts l → Fits h us l
