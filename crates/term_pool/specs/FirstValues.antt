-- The table of the first values of all sorts.
use Rattle.std.specs.Prelude.{◌≡◌, ◌⊎◌, ◌<◌, ◌≤◌, ◌+◌, ℕ, suc, List, [], ◌∷◌, length, Option, Some, None, slice_get}
use Rattle.std.specs.List.{All}
use Rattle.data_theory.specs.declared.ids.SortId.{SortId}
use Rattle.data_theory.specs.declared.ids.FunId.{FunId}
use Rattle.data_theory.specs.Functions.{Function, arguments_of}
use Rattle.data_theory.specs.Signature.{Sig}
use Rattle.term_pool.specs.declared.first_values.Root.{Root}
use Rattle.term_pool.specs.declared.first_values.Root.TheVariants.{Number, Constructor, Constant}
use Rattle.term_pool.specs.declared.first_values.First.{First}
use Rattle.term_pool.specs.ConstructorValues.{ConstructorValue, ConstructorValues, a_number, built, a_constant, IsValueOf, AreValuesOf, HasValue, weight, weights, ComesBefore, IsFirstValue, AreFirstOf}

-- what stands at the root of a value
abbrev pub root_of : ConstructorValue → Root
root_of (a_number s z) = Number
root_of (built f vs) = Constructor f
root_of (a_constant d) = Constant

-- the weight and the root of the first value of a sort
abbrev pub IsFirstOf : Sig → SortId → First → Type 0
IsFirstOf g s first = (v : ConstructorValue) × IsFirstValue g s v × (weight v ≡ first.weight) × (root_of v ≡ first.root)

-- a sort without an entry is empty
abbrev pub IsEntryOf : Sig → SortId → Option First → Type 0
IsEntryOf g s None = ¬ (HasValue g s)
IsEntryOf g s (Some first) = IsFirstOf g s first

-- there is an entry for each sort, in the order of their numbers
pub record AreFirstValues (g : Sig) (entries : List (Option First)) : Type 0 where
  pub count : length entries ≡ length g.sorts
  pub first : (s : SortId) (e : Option First) → slice_get entries s.0 ≡ Some e → IsEntryOf g s e

-- ---- while the table is made
-- the entries that are there are right
pub record AreFirstSoFar (g : Sig) (entries : List (Option First)) : Type 0 where
  pub count : length entries ≡ length g.sorts
  pub first : (s : SortId) (f : First) → slice_get entries s.0 ≡ Some (Some f) → IsFirstOf g s f

-- the sort has its entry
abbrev pub IsSettled : List (Option First) → SortId → Type 0
IsSettled entries s = (f : First) × (slice_get entries s.0 ≡ Some (Some f))

abbrev pub AreSettled : List (Option First) → List SortId → Type 0
AreSettled entries ss = All (IsSettled entries) ss

-- a number or a constant, or a constructor whose arguments' sorts all have their entries
abbrev pub IsOverSettled : Sig → List (Option First) → ConstructorValue → Type 0
IsOverSettled g entries (a_number s z) = Unit {0}
IsOverSettled g entries (built f vs) = (e : Function) → slice_get g.functions f.0 ≡ Some e → AreSettled entries (arguments_of e)
IsOverSettled g entries (a_constant d) = Unit {0}

-- 1 and the weights of the first values of these sorts, where they all have their entries
abbrev pub IsWeightOver : Sig → List (Option First) → List SortId → Option ℕ → Type 0
IsWeightOver g entries ss None = ¬ (AreSettled entries ss)
IsWeightOver g entries ss (Some n) = (vs : ConstructorValues) × AreFirstOf g vs ss × (n ≡ 1 + weights vs)

-- the weight and the root of the first one of the values of a sort that stand over settled sorts
pub record IsCandidate (g : Sig) (entries : List (Option First)) (s : SortId) (c : First) : Type 0 where
  pub value : ConstructorValue
  pub of_sort : IsValueOf g value s
  pub weighs : weight value ≡ c.weight
  pub has_root : root_of value ≡ c.root
  pub first : (w : ConstructorValue) → IsValueOf g w s → IsOverSettled g entries w → (value ≡ w) ⊎ ComesBefore g s value w

abbrev pub IsCandidateOf : Sig → List (Option First) → SortId → Option First → Type 0
IsCandidateOf g entries s None = (w : ConstructorValue) → IsValueOf g w s → ¬ (IsOverSettled g entries w)
IsCandidateOf g entries s (Some c) = IsCandidate g entries s c

-- ---- the constructors at the places of a sort
-- this constructor, with its entry, stands at a place, and its arguments' sorts are settled
abbrev pub IsUsableAt : Sig → List (Option First) → List (Option FunId) → ℕ → FunId → Function → Type 0
IsUsableAt g entries places k f e = (slice_get places k ≡ Some (Some f)) × (slice_get g.functions f.0 ≡ Some e) × AreSettled entries (arguments_of e)

-- among the first places, the first constructor whose first arguments weigh least
pub record IsLightest (g : Sig) (entries : List (Option First)) (places : List (Option FunId)) (n : ℕ) (c : First) : Type 0 where
  pub place : ℕ
  pub fun : FunId
  pub entry : Function
  pub values : ConstructorValues
  pub below : place < n
  pub at : slice_get places place ≡ Some (Some fun)
  pub declared : slice_get g.functions fun.0 ≡ Some entry
  pub first_values : AreFirstOf g values (arguments_of entry)
  pub weighs : c.weight ≡ 1 + weights values
  pub has_root : c.root ≡ Constructor fun
  pub least : (k : ℕ) (h : FunId) (e : Function) (ws : ConstructorValues) → k < n → IsUsableAt g entries places k h e → AreValuesOf g ws (arguments_of e) → c.weight ≤ 1 + weights ws
  pub earliest : (k : ℕ) (h : FunId) (e : Function) (ws : ConstructorValues) → k < place → IsUsableAt g entries places k h e → AreValuesOf g ws (arguments_of e) → c.weight < 1 + weights ws

abbrev pub IsLightestOf : Sig → List (Option First) → List (Option FunId) → ℕ → Option First → Type 0
IsLightestOf g entries places n None = (k : ℕ) (h : FunId) (e : Function) → k < n → ¬ (IsUsableAt g entries places k h e)
IsLightestOf g entries places n (Some c) = IsLightest g entries places n c

-- ---- the sorts without an entry
abbrev pub IsOpen : List (Option First) → SortId → Type 0
IsOpen entries s = slice_get entries s.0 ≡ Some None

-- how many there are
abbrev pub open_count : List (Option First) → ℕ
open_count [] = 0
open_count (None ∷ entries) = suc (open_count entries)
open_count (Some f ∷ entries) = open_count entries

-- their values weigh this much at least
abbrev pub OpenWeighAtLeast : Sig → List (Option First) → ℕ → Type 0
OpenWeighAtLeast g entries n = (t : SortId) (w : ConstructorValue) → IsOpen entries t → IsValueOf g w t → n ≤ weight w

-- the lightest candidate of the open ones among the first sorts
pub record IsNext (g : Sig) (entries : List (Option First)) (n : ℕ) (s : SortId) (c : First) : Type 0 where
  pub unsettled : IsOpen entries s
  pub candidate : IsCandidate g entries s c
  pub least : (t : SortId) (w : ConstructorValue) → t.0 < n → IsOpen entries t → IsValueOf g w t → IsOverSettled g entries w → c.weight ≤ weight w

abbrev pub IsNextOf : Sig → List (Option First) → ℕ → Option (SortId × First) → Type 0
IsNextOf g entries n None = (t : SortId) (w : ConstructorValue) → t.0 < n → IsOpen entries t → IsValueOf g w t → ¬ (IsOverSettled g entries w)
IsNextOf g entries n (Some p) = IsNext g entries n p.0 p.1
