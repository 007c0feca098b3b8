-- First values by the table of their roots, and the trees that it gives.
use Rattle.std.specs.Prelude.{◌≡◌, ◌==◌, ◌&&◌, ◌<◌, Bool, true, false, not, ℕ, List, [], ◌∷◌, Option, None, Some, IsSome, IsTrue, cond, get_or, slice_get, take, ℤ, pos}
use Rattle.std.specs.List.{All, Contains, list_any}
use Rattle.std.specs.Option.{option_map_or}
use Rattle.std.specs.HashMap.{HashMap, get}
use Rattle.data_theory.specs.declared.ids.SortId.{SortId}
use Rattle.data_theory.specs.declared.ids.FunId.{FunId}
use Rattle.data_theory.specs.declared.ids.TermId.{TermId}
use Rattle.data_theory.specs.Functions.{Function, arguments_of}
use Rattle.data_theory.specs.Sorts.{Kind, SortInfo, booleans, positives, naturals, integers, lists_over, without_constructors, by_declarations, structured}
use Rattle.data_theory.specs.IdTreeSorts.{HasNumber}
use Rattle.data_theory.specs.IdTrees.{Tree, numeral, function, none, trees_of, apply_tree}
use Rattle.term_pool.specs.declared.first_values.First.{First}
use Rattle.term_pool.specs.declared.first_values.Root.{Root}
use Rattle.term_pool.specs.declared.first_values.Root.TheVariants.{Number, Constructor, Constant}
use Rattle.term_pool.specs.HeadTrees.{tree_at, IsIn}
use Rattle.term_pool.specs.Constants.{is_listed, constant_of}

-- ---- the table
-- the first number of Pos, Nat or Int
abbrev pub first_number : SortId → ℤ
first_number s = cond (s.0 == 1) (pos 1) (pos 0)

-- the entry of a sort
abbrev pub first_at : List (Option First) → SortId → Option First
first_at firsts s = get_or firsts s.0 None

abbrev pub HasEntry : List (Option First) → SortId → Type 0
HasEntry firsts s = IsSome (first_at firsts s)

-- the root of a sort's first value
abbrev pub HasRootAt : List (Option First) → SortId → Root → Type 0
HasRootAt firsts s r = (e : First) × (first_at firsts s ≡ Some e) × (e.root ≡ r)

-- the sorts of the arguments of a function; none of one that isn't there
abbrev pub function_arguments : List Function → FunId → List SortId
function_arguments fs f = option_map_or arguments_of (slice_get fs f.0) []

abbrev pub root_arguments : List Function → Root → List SortId
root_arguments fs (Constructor f) = function_arguments fs f
root_arguments fs Number = []
root_arguments fs Constant = []

abbrev pub IsRootWithin : ℕ → Root → Type 0
IsRootWithin functions (Constructor f) = f.0 < functions
IsRootWithin functions Number = Unit {0}
IsRootWithin functions Constant = Unit {0}

-- so that its term can be made: the function is there, the sort has numbers, or its constant is listed
abbrev pub IsRootReady : ℕ → List (SortId × FunId) → SortId → Root → Type 0
IsRootReady functions cs s (Constructor f) = f.0 < functions
IsRootReady functions cs s Number = HasNumber s (first_number s)
IsRootReady functions cs s Constant = IsTrue (is_listed cs s)

pub record IsReady (functions : ℕ) (firsts : List (Option First)) (cs : List (SortId × FunId)) (s : SortId) : Type 0 where
  pub entry : HasEntry firsts s
  pub root : (r : Root) → HasRootAt firsts s r → IsRootReady functions cs s r

-- the sorts of the arguments of a sort's first value
abbrev pub sorts_under : List Function → List (Option First) → SortId → List SortId
sorts_under fs firsts s = option_map_or (λ (e : First). root_arguments fs e.root) (first_at firsts s) []

-- ---- the sorts in a first value
-- the first value of the last sort stands in that of the first one
pub data Reaches (fs : List Function) (firsts : List (Option First)) (s : SortId) : SortId → Type 0 where
  itself : Reaches fs firsts s s
  deeper : {r a : SortId} → Reaches fs firsts s r → Contains (sorts_under fs firsts r) a → Reaches fs firsts s a

-- each sort stands behind those of the arguments of its first value
abbrev pub IsOrdered : List Function → List (Option First) → List SortId → Type 0
IsOrdered fs firsts sorts = (k : ℕ) (r : SortId) → slice_get sorts k ≡ Some r → All (Contains (take k sorts)) (sorts_under fs firsts r)

-- the sorts whose first values stand in that of a sort, each behind those of its arguments
pub record AreSortsWithin (fs : List Function) (firsts : List (Option First)) (s : SortId) (sorts : List SortId) : Type 0 where
  pub has_sort : Contains sorts s
  pub reached : All (Reaches fs firsts s) sorts
  pub entries : All (HasEntry firsts) sorts
  pub ordered : IsOrdered fs firsts sorts

-- ---- sorts without a constant
abbrev pub is_bare_kind : Kind → Bool
is_bare_kind without_constructors = true
is_bare_kind booleans = false
is_bare_kind positives = false
is_bare_kind naturals = false
is_bare_kind integers = false
is_bare_kind (lists_over e) = false
is_bare_kind (by_declarations fs) = false
is_bare_kind (structured fs) = false

-- the sort has no constructors and no constant is listed for it
abbrev pub lacks_constant : List SortInfo → List (SortId × FunId) → SortId → Bool
lacks_constant ss cs d = option_map_or (λ (s : SortInfo). is_bare_kind s.kind) (slice_get ss d.0) false && not (is_listed cs d)

-- so it is, and it is among these sorts
abbrev pub is_in_need : List SortInfo → List (SortId × FunId) → List SortId → SortId → Bool
is_in_need ss cs sorts d = list_any (λ (s : SortId). d.0 == s.0) sorts && lacks_constant ss cs d

-- ---- the trees
-- the tree of the first value of a sort, by the table and the constants
mutual
  pub data IsTreeOf (fs : List Function) (firsts : List (Option First)) (cs : List (SortId × FunId)) : SortId → Tree → Type 0 where
    of_number : {s : SortId} {t : Tree} → HasRootAt firsts s Number → t ≡ numeral s (first_number s) → IsTreeOf fs firsts cs s t
    of_constructor : {s : SortId} {t : Tree} (f : FunId) (ts : List Tree) → HasRootAt firsts s (Constructor f) → AreTreesOf fs firsts cs (function_arguments fs f) ts → t ≡ apply_tree f (trees_of ts) → IsTreeOf fs firsts cs s t
    of_constant : {s : SortId} {t : Tree} → HasRootAt firsts s Constant → t ≡ function (constant_of cs s) none → IsTreeOf fs firsts cs s t

  pub data AreTreesOf (fs : List Function) (firsts : List (Option First)) (cs : List (SortId × FunId)) : List SortId → List Tree → Type 0 where
    no_trees : AreTreesOf fs firsts cs [] []
    tree_then : {s : SortId} {t : Tree} {ss : List SortId} {ts : List Tree} → IsTreeOf fs firsts cs s t → AreTreesOf fs firsts cs ss ts → AreTreesOf fs firsts cs (s ∷ ss) (t ∷ ts)

-- ---- the terms that were made
abbrev pub made_for : {S : Type 0} → HashMap SortId TermId S → SortId → Option TermId
made_for made s = get (λ x y. x.0 == y.0) made s

-- the sort has its term
pub record HasTerm {S : Type 0} (fs : List Function) (firsts : List (Option First)) (ts : List Tree) (cs : List (SortId × FunId)) (made : HashMap SortId TermId S) (s : SortId) : Type 0 where
  pub term : TermId
  pub found : made_for made s ≡ Some term
  pub within : IsIn ts term
  pub is : IsTreeOf fs firsts cs s (tree_at ts term)
