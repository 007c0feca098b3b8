-- Constants of sorts without constructors, and constructor values as trees.
use Rattle.std.specs.Prelude.{◌≡◌, ◌==◌, ◌&&◌, ◌||◌, ◌++◌, ℕ, Bool, false, not, List, [], ◌∷◌, None, Some, is_some, unwrap_or, codes, map, length, slice_get}
use Rattle.std.specs.List.{All, filter, range_with_len}
use Rattle.std.specs.Map.{lookup}
use Rattle.data_theory.specs.declared.ids.NameId.{NameId}
use Rattle.data_theory.specs.declared.ids.SortId.{SortId}
use Rattle.data_theory.specs.declared.ids.FunId.{FunId}
use Rattle.data_theory.specs.Functions.{Function, arguments_of, declared_function}
use Rattle.data_theory.specs.Places.{HaveOnePlace}
use Rattle.data_theory.specs.Sorts.{SortInfo, IsBare}
use Rattle.data_theory.specs.Signature.{Sig, with_function}
use Rattle.data_theory.specs.Fresh.{IsFreshIn}
use Rattle.data_theory.specs.IdTrees.{Tree, Trees, numeral, function, none, more}
use Rattle.term_pool.specs.ConstructorValues.{ConstructorValue, ConstructorValues, a_number, built, a_constant, no_value, value_then}

-- ---- values as trees
-- the tree of a value, where each sort without constructors has this constant
abbrev mutual
  pub tree_with : (SortId → FunId) → ConstructorValue → Tree
  tree_with c (a_number s z) = numeral s z
  tree_with c (built f vs) = function f (trees_with c vs)
  tree_with c (a_constant d) = function (c d) none

  pub trees_with : (SortId → FunId) → ConstructorValues → Trees
  trees_with c no_value = none
  trees_with c (value_then v vs) = more (tree_with c v) (trees_with c vs)

-- the constant of this sort stands in the value
abbrev mutual
  pub has_constant : SortId → ConstructorValue → Bool
  has_constant d (a_number s z) = false
  has_constant d (built f vs) = have_constant d vs
  has_constant d (a_constant e) = d.0 == e.0

  pub have_constant : SortId → ConstructorValues → Bool
  have_constant d no_value = false
  have_constant d (value_then v vs) = has_constant d v || have_constant d vs

-- ---- the constants that are listed
-- a constant is listed for the sort
abbrev pub is_listed : List (SortId × FunId) → SortId → Bool
is_listed cs d = is_some (lookup (λ (e : SortId). d.0 == e.0) cs)

-- the constant that is listed for a sort; function 0 stands for one that isn't
abbrev pub constant_of : List (SortId × FunId) → SortId → FunId
constant_of cs d = unwrap_or (lookup (λ (e : SortId). d.0 == e.0) cs) (record { 0 = 0 })

-- a declared function without arguments, of a sort without constructors
abbrev pub IsConstantOf : Sig → SortId → FunId → Type 0
IsConstantOf g d f = IsBare g.sorts d × ((e : Function) × (slice_get g.functions f.0 ≡ Some e) × (e.word ≡ None) × (arguments_of e ≡ []) × (e.result ≡ d))

-- these are constants of the signature, and no sort has two
pub record AreConstants (g : Sig) (cs : List (SortId × FunId)) : Type 0 where
  pub each : All (λ (c : SortId × FunId). IsConstantOf g c.0 c.1) cs
  pub once : HaveOnePlace (map (λ (c : SortId × FunId). c.0) cs)

-- the old constants stay, and others come behind them
abbrev pub KeepsConstants : List (SortId × FunId) → List (SortId × FunId) → Type 0
KeepsConstants old new = (more : List (SortId × FunId)) × (new ≡ old ++ more)

-- ---- declaring constants
-- all sorts of a signature, in the order of their numbers
abbrev pub all_sorts : Sig → List SortId
all_sorts g = map (λ k. record { 0 = k }) (range_with_len 0 (length g.sorts))

-- the sorts whose constant stands in the value and isn't listed, in the order of their numbers
abbrev pub sorts_in_need : Sig → List (SortId × FunId) → ConstructorValue → List SortId
sorts_in_need g cs v = filter (λ d. has_constant d v && not (is_listed cs d)) (all_sorts g)

-- this is the first name of a sort
abbrev pub IsFirstName : Sig → SortId → List ℕ → Type 0
IsFirstName g d text = (s : SortInfo) × (n : NameId) × (slice_get g.sorts d.0 ≡ Some s) × (s.name ≡ Some n) × (slice_get g.texts n.0 ≡ Some text)

-- A constant of a sort is declared, and listed behind the others. Its name is the fresh one to `dc_` with the sort's name
-- behind it.
pub record DeclaresConstant (d : SortId) (g : Sig) (cs : List (SortId × FunId)) (h : Sig) (ds : List (SortId × FunId)) : Type 0 where
  pub text : List ℕ
  pub sort_named : IsFirstName g d text
  pub name : NameId
  pub between : Sig
  pub fresh : IsFreshIn g (codes "dc_" ++ text) name between
  pub declared : h ≡ with_function between (declared_function name [] d)
  pub listed : ds ≡ cs ++ (d, record { 0 = length between.functions }) ∷ []

-- constants of these sorts are declared, one after the other
pub data DeclaresConstants : List SortId → Sig → List (SortId × FunId) → Sig → List (SortId × FunId) → Type 0 where
  none_left : {g : Sig} {cs : List (SortId × FunId)} → DeclaresConstants [] g cs g cs
  declares : {d : SortId} {sorts : List SortId} {g h i : Sig} {cs ds es : List (SortId × FunId)} → DeclaresConstant d g cs h ds → DeclaresConstants sorts h ds i es → DeclaresConstants (d ∷ sorts) g cs i es
