-- Variables of one linear process that give way to those of another one, in code.
use Rattle.std.specs.Prelude.{◌≡◌, ◌⊎◌, ◌==◌, ℕ, List, [], ◌∷◌, ◌++◌, Bool, true, false, map, flat_map, length, cond, slice_get, codes, Option, Some, None}
use Rattle.std.specs.List.{All, AllZip, Contains}
use Rattle.data_theory.specs.declared.ids.NameId.{NameId}
use Rattle.data_theory.specs.declared.ids.VarId.{VarId}
use Rattle.data_theory.specs.Table.{bool_sort}
use Rattle.data_theory.specs.Signature.{Sig, with_variable}
use Rattle.data_theory.specs.Fresh.{IsFreshIn}
use Rattle.data_theory.specs.IdTrees.{Tree}
use Rattle.term_pool.specs.HeadTrees.{AreIn}
use Rattle.term_pool.specs.Bindings.{listed, listed_terms}
use Rattle.data_theory.specs.declared.ids.TermId.{TermId}
use Rattle.lps_core.specs.Fitting.{sort_of_variable}
use Rattle.lps_core.specs.Naming.{name_of, names_of}
use Rattle.lps_core.specs.PlainLinears.{PlainSummand, PlainLinear}
use Rattle.lps_core.specs.TreeSummands.{trees_of_summand, put_in_summand, renaming_tree, IsSummandIn}

-- ---- flags
-- a side that can end gets a flag, a variable of sort Bool with a fresh name
pub data IsFlag (g : Sig) : Bool → Sig → Option VarId → Type 0 where
  no_flag : IsFlag g false g None
  new_flag : {h : Sig} {name : NameId} → IsFreshIn g (codes "ended") name h → IsFlag g true (with_variable h (record { name = name; sort = bool_sort })) (Some (record { 0 = length h.variables }))

-- ---- which variables get new ids
abbrev pub all_sums : List PlainSummand → List VarId
all_sums ss = flat_map (λ (s : PlainSummand). s.sums) ss

-- the variables of a linear process: its parameters, and the sums of its summands
abbrev pub HasVariable : PlainLinear → VarId → Type 0
HasVariable l x = Contains l.params x ⊎ Contains (all_sums l.summands) x

-- A variable of the same sort in the place of x: under the name of x, or, where that is one of these names, under a fresh one with
-- the name of x as base.
pub data IsNew (IsOne : NameId → Type 0) (g : Sig) (x : VarId) : Sig → VarId → Type 0 where
  under_its_name : ¬ (IsOne (name_of g x)) → IsNew IsOne g x (with_variable g (record { name = name_of g x; sort = sort_of_variable g x })) (record { 0 = length g.variables })
  under_a_fresh_name : {h : Sig} {base : List ℕ} {name : NameId} → IsOne (name_of g x) → slice_get g.texts (name_of g x).0 ≡ Some base → IsFreshIn g base name h
      → IsNew IsOne g x (with_variable h (record { name = name; sort = sort_of_variable g x })) (record { 0 = length h.variables })

-- One that has one of these names, or is one of the others', gets a new one in its place, once. The old variables and the new ones stand
-- behind those that are there.
pub data OneIsRenewed (IsOne : NameId → Type 0) (IsOther : VarId → Type 0) (g : Sig) (olds news : List VarId) (x : VarId) : Sig → List VarId → List VarId → Type 0 where
  it_has_been : Contains olds x → OneIsRenewed IsOne IsOther g olds news x g olds news
  it_stays : ¬ (IsOne (name_of g x)) → ¬ (IsOther x) → OneIsRenewed IsOne IsOther g olds news x g olds news
  it_is_renewed : {h : Sig} {y : VarId} → ¬ (Contains olds x) → IsOne (name_of g x) ⊎ IsOther x → IsNew IsOne g x h y → OneIsRenewed IsOne IsOther g olds news x h (olds ++ x ∷ []) (news ++ y ∷ [])

-- variables from the left
pub data AreRenewed (IsOne : NameId → Type 0) (IsOther : VarId → Type 0) (g : Sig) (olds news : List VarId) : List VarId → Sig → List VarId → List VarId → Type 0 where
  no_variable : AreRenewed IsOne IsOther g olds news [] g olds news
  one_variable : {xs os ns os' ns' : List VarId} {h k : Sig} {x : VarId} → AreRenewed IsOne IsOther g olds news xs h os ns → OneIsRenewed IsOne IsOther h os ns x k os' ns' → AreRenewed IsOne IsOther g olds news (xs ++ x ∷ []) k os' ns'

abbrev pub IsNoName : NameId → Type 0
IsNoName n = ⊥

abbrev pub IsNameOf : Sig → List VarId → NameId → Type 0
IsNameOf g xs n = Contains (names_of g xs) n

-- The right parameters first: one with a left parameter's name gets a fresh name. Then the right sums, under their own names. In both
-- a variable that the left side has gets a new id.
pub record GivesWay (g : Sig) (l r : PlainLinear) (h : Sig) (olds news : List VarId) : Type 0 where
  pub between : Sig
  pub old_params : List VarId
  pub new_params : List VarId
  pub params : AreRenewed (IsNameOf g l.params) (HasVariable l) g [] [] r.params between old_params new_params
  pub sums : AreRenewed IsNoName (HasVariable l) between old_params new_params (all_sums r.summands) h olds news

-- ---- the linear process with the new variables
abbrev pub renewed_variable : List VarId → List VarId → VarId → VarId
renewed_variable [] ys x = x
renewed_variable (o ∷ os) [] x = x
renewed_variable (o ∷ os) (n ∷ ns) x = cond (o.0 == x.0) n (renewed_variable os ns x)

abbrev pub renewed_variables : List VarId → List VarId → List VarId → List VarId
renewed_variables olds news xs = map (renewed_variable olds news) xs

-- the new variables as terms that are listed for the old ones
pub record AreListed (ts : List Tree) (olds news : List VarId) (by : List (VarId × TermId)) : Type 0 where
  pub within : AreIn ts (listed_terms by)
  pub moves : (v : VarId) → listed ts by v ≡ renaming_tree olds news v

abbrev pub IsRenewedSummand : List Tree → List Tree → List VarId → List VarId → PlainSummand → PlainSummand → Type 0
IsRenewedSummand ts us olds news s t = trees_of_summand us t ≡ put_in_summand (renaming_tree olds news) (renewed_variables olds news s.sums) (trees_of_summand ts s)

pub record AreRenewedSummands (ts us : List Tree) (olds news : List VarId) (ss made : List PlainSummand) : Type 0 where
  pub summands : AllZip (IsRenewedSummand ts us olds news) ss made
  pub within : All (IsSummandIn us) made

pub record IsRenewedLinear (ts us : List Tree) (olds news : List VarId) (l k : PlainLinear) : Type 0 where
  pub params : k.params ≡ renewed_variables olds news l.params
  pub init : k.init ≡ l.init
  pub summands : AreRenewedSummands ts us olds news l.summands k.summands
