-- What the values of sorts are built of.
use Rattle.std.specs.Prelude.{◌≡◌, ◌⊎◌, ◌<◌, ◌+◌, ◌++◌, ℕ, zero, suc, List, [], ◌∷◌, map, drop, length, Option, Some, None, slice_get}
use Rattle.std.specs.List.{Contains}
use Rattle.std.specs.Global.{Vec}
use Rattle.data_theory.specs.declared.ids.SortId.{SortId}
use Rattle.data_theory.specs.declared.ids.FunId.{FunId}
use Rattle.data_theory.specs.Functions.{Function, arguments_of}
use Rattle.data_theory.specs.Signature.{Sig}
use Rattle.term_pool.specs.ConstructorValues.{IsConstructorAt, IsEarlier}
use Rattle.term_pool.specs.FirstTerms.{function_arguments}
use Rattle.value_enum.specs.declared.shapes.Constructor.{Constructor}
use Rattle.value_enum.specs.declared.shapes.Shapes.{Shapes}
use Rattle.value_enum.specs.Ascending.{Ascending}
use Rattle.value_enum.specs.Values.{LeadsTo}

-- the constructors of a sort, each once, in the order of their first places
pub record AreConstructors (g : Sig) (s : SortId) (fs : List FunId) : Type 0 where
  pub each : (f : FunId) → Contains fs f → (k : ℕ) × IsConstructorAt g s k f
  pub all : (k : ℕ) (f : FunId) → IsConstructorAt g s k f → Contains fs f
  pub ordered : Ascending (IsEarlier g s) fs

-- the sort of an argument of one of these functions
abbrev pub IsArgumentIn : Sig → List FunId → SortId → Type 0
IsArgumentIn g fs a = (f : FunId) × (e : Function) × Contains fs f × (slice_get g.functions f.0 ≡ Some e) × Contains (arguments_of e) a

-- these and the sorts of the arguments of the functions, behind the old ones
pub record AddsArguments (g : Sig) (fs : List FunId) (old new : List SortId) : Type 0 where
  pub kept : (more : List SortId) × (new ≡ old ++ more)
  pub only : (a : SortId) → Contains new a → Contains old a ⊎ IsArgumentIn g fs a
  pub all : (a : SortId) → IsArgumentIn g fs a → Contains new a

-- these and the sorts themselves
pub record AddsSorts (added old new : List SortId) : Type 0 where
  pub kept : (more : List SortId) × (new ≡ old ++ more)
  pub only : (a : SortId) → Contains new a → Contains old a ⊎ Contains added a
  pub all : (a : SortId) → Contains added a → Contains new a

-- the sort of an argument of a constructor of the sort
abbrev pub IsArgumentOf : Sig → SortId → SortId → Type 0
IsArgumentOf g s a = (k : ℕ) × (f : FunId) × (e : Function) × IsConstructorAt g s k f × (slice_get g.functions f.0 ≡ Some e) × Contains (arguments_of e) a

-- constructors lead from these sorts to none beside them
abbrev pub AreClosed : Sig → List SortId → Type 0
AreClosed g sorts = (t a : SortId) → Contains sorts t → IsArgumentOf g t a → Contains sorts a

-- the sort, and all to which it leads
pub record AreUnder (g : Sig) (s : SortId) (sorts : List SortId) : Type 0 where
  pub has : Contains sorts s
  pub led : (t : SortId) → Contains sorts t → LeadsTo g s t
  pub within : (t : SortId) → Contains sorts t → t.0 < length g.sorts
  pub closed : AreClosed g sorts

-- the list at a place; none behind the last one
abbrev pub list_at : {A : Type 0} → List (Vec A) → ℕ → List A
list_at [] k = []
list_at (v ∷ vs) zero = v.items
list_at (v ∷ vs) (suc k) = list_at vs k

-- the sorts up to the next end
abbrev pub sorts_to_end : List (Option SortId) → List SortId
sorts_to_end [] = []
sorts_to_end (None ∷ os) = []
sorts_to_end (Some s ∷ os) = s ∷ sorts_to_end os

abbrev pub arguments_at : List (Option SortId) → ℕ → List SortId
arguments_at os p = sorts_to_end (drop p os)

abbrev pub functions_of : List Constructor → List FunId
functions_of cs = map (λ (c : Constructor). c.fun) cs

-- the sorts of its arguments stand at its place, with an end behind them
pub record StandsAt (g : Sig) (os : List (Option SortId)) (c : Constructor) : Type 0 where
  pub before : List (Option SortId)
  pub behind : List (Option SortId)
  pub place : length before ≡ c.first
  pub split : os ≡ before ++ (map Some (function_arguments g.functions c.fun) ++ None ∷ behind)

-- something stands behind each sort
abbrev pub AreEnded : List (Option SortId) → Type 0
AreEnded os = (p : ℕ) (a : SortId) → slice_get os p ≡ Some (Some a) → p + 1 < length os

-- a sort gets its constructors, the sorts of whose arguments come behind those that are there
pub record AddsShape (g : Sig) (s : SortId) (old new : List (Option SortId)) (cs : List Constructor) : Type 0 where
  pub kept : (more : List (Option SortId)) × (new ≡ old ++ more)
  pub constructors : AreConstructors g s (functions_of cs)
  pub places : (c : Constructor) → Contains cs c → StandsAt g new c
  pub arguments : (a : SortId) → Contains new (Some a) → Contains old (Some a) ⊎ IsArgumentOf g s a
  pub ended : AreEnded old → AreEnded new

-- each of the sorts has its constructors
pub record AreShapes (g : Sig) (sh : Shapes) : Type 0 where
  pub closed : AreClosed g sh.sorts.keys
  pub within : (s : SortId) → Contains sh.sorts.keys s → s.0 < length g.sorts
  pub count : length sh.constructors.items ≡ length g.sorts
  pub constructors : (s : SortId) → Contains sh.sorts.keys s → AreConstructors g s (functions_of (list_at sh.constructors.items s.0))
  pub places : (k : ℕ) (c : Constructor) → Contains (list_at sh.constructors.items k) c → StandsAt g sh.arguments.items c
  pub arguments : (a : SortId) → Contains sh.arguments.items (Some a) → Contains sh.sorts.keys a
  pub ended : AreEnded sh.arguments.items
