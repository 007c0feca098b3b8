-- The constructor values of a sort by their weights.
use Rattle.std.specs.Prelude.{◌≡◌, ◌==◌, ◌⊎◌, ◌<◌, ◌≤◌, ◌||◌, ◌+◌, ◌-◌, ◌/◌, ◌%◌, ◌^◌, ◌++◌, ℕ, zero, suc, Bool, false, cond, get_or, List, [], ◌∷◌, map, take, length, Option, Some, None, slice_get, ℤ, pos}
use Rattle.std.specs.List.{Contains, flat_map}
use Rattle.std.specs.Option.{option_map_or}
use lib.IntN.{neg_ℤ}
use Rattle.data_theory.specs.declared.ids.SortId.{SortId}
use Rattle.data_theory.specs.declared.ids.FunId.{FunId}
use Rattle.data_theory.specs.declared.ids.TermId.{TermId}
use Rattle.data_theory.specs.Signature.{Sig}
use Rattle.data_theory.specs.IdTrees.{Tree, Trees, function, apply_tree}
use Rattle.term_pool.specs.ConstructorValues.{ConstructorValue, ConstructorValues, a_number, built, no_value, value_then, weight}
use Rattle.term_pool.specs.Constants.{trees_with}
use Rattle.term_pool.specs.FirstTerms.{function_arguments}
use Rattle.value_enum.specs.declared.shapes.Shapes.{Shapes}
use Rattle.value_enum.specs.declared.shapes.Constructor.{Constructor}
use Rattle.value_enum.specs.declared.levels.Levels.{Levels}
use Rattle.value_enum.specs.declared.levels.Tuple.{Tuple}
use Rattle.value_enum.specs.declared.levels.ValueRow.{ValueRow}
use Rattle.value_enum.specs.declared.levels.TupleRow.{TupleRow}
use Rattle.value_enum.specs.Values.{IsPlainValueOf, IsTermOf, AreTermsOf}
use Rattle.value_enum.specs.Shapes.{list_at, functions_of, arguments_at}

-- ---- numbers
abbrev pub is_number_sort : SortId → Bool
is_number_sort s = (s.0 == 1) || ((s.0 == 2) || (s.0 == 3))

-- the number of Pos, Nat or Int that has a weight above 0
abbrev pub number_weighing : SortId → ℕ → ℤ
number_weighing s w = cond (s.0 == 1) (pos w) (cond (s.0 == 2) (pos (w - 1)) (cond (w % 2 == 0) (pos (w / 2)) (neg_ℤ (pos (w / 2)))))

abbrev pub numbers_weighing : SortId → ℕ → List ConstructorValue
numbers_weighing s w = cond (is_number_sort s) (a_number s (number_weighing s w) ∷ []) []

-- ---- pairs by their weights
-- each of the first in front of each of the rests, the rests fastest
abbrev pub in_front_of_all : {A B : Type 0} → (A → B → B) → List A → List B → List B
in_front_of_all put firsts rests = flat_map (λ a. map (put a) rests) firsts

-- those of a total weight whose first parts weigh 1 to k
abbrev pub weighing_up_to : {A B : Type 0} → (A → B → B) → (ℕ → List A) → (ℕ → List B) → ℕ → ℕ → List B
weighing_up_to put firsts rests total zero = []
weighing_up_to put firsts rests total (suc k) = weighing_up_to put firsts rests total k ++ in_front_of_all put (firsts (suc k)) (rests (total - suc k))

-- ---- values by their weights
-- the constructors of sorts, and the sorts of their arguments
pub record Shape : Type 0 where
  pub constructors : SortId → List FunId
  pub arguments : FunId → List SortId

-- the lists of values of these sorts that weigh so much together, by the values of each sort
unfoldable pub tuples_weighing : (SortId → ℕ → List ConstructorValue) → List SortId → ℕ → List ConstructorValues
tuples_weighing V [] zero = no_value ∷ []
tuples_weighing V [] (suc t) = []
tuples_weighing V (s ∷ ss) t = weighing_up_to value_then (V s) (tuples_weighing V ss) t t

-- these constructors over arguments that weigh so much
unfoldable pub built_over : (FunId → List SortId) → (SortId → ℕ → List ConstructorValue) → List FunId → ℕ → List ConstructorValue
built_over arguments V [] t = []
built_over arguments V (f ∷ fs) t = map (built f) (tuples_weighing V (arguments f) t) ++ built_over arguments V fs t

-- the values of a sort with a weight that is no greater than the depth
unfoldable pub values_within : Shape → ℕ → SortId → ℕ → List ConstructorValue
values_within sh zero s w = []
values_within sh (suc n) s zero = []
values_within sh (suc n) s (suc t) = numbers_weighing s (suc t) ++ built_over sh.arguments (values_within sh n) (sh.constructors s) t

unfoldable pub values_weighing : Shape → SortId → ℕ → List ConstructorValue
values_weighing sh s w = values_within sh w s w

-- the values of a sort up to a weight
unfoldable pub values_up_to : Shape → SortId → ℕ → List ConstructorValue
values_up_to sh s zero = []
values_up_to sh s (suc w) = values_up_to sh s w ++ values_weighing sh s (suc w)

-- ---- what the code holds
abbrev pub shape_of : Sig → Shapes → Shape
shape_of g sh = record { constructors = λ s. functions_of (list_at sh.constructors.items s.0); arguments = function_arguments g.functions }

abbrev pub values_at : List ValueRow → ℕ → SortId → List TermId
values_at rows w s = option_map_or (λ (row : ValueRow). list_at row.by_sort.items s.0) (slice_get rows w) []

abbrev pub tuples_at : List TupleRow → ℕ → ℕ → List Tuple
tuples_at rows w p = option_map_or (λ (row : TupleRow). list_at row.by_place.items p) (slice_get rows w) []

abbrev pub plain_tuples : List Tuple → List (List TermId)
plain_tuples ts = map (λ (t : Tuple). t.terms.items) ts

-- the terms with these numbers are those of the values
pub data IsTupleOf (ts : List Tree) : List TermId → ConstructorValues → Type 0 where
  empty : IsTupleOf ts [] no_value
  longer : {id : TermId} {v : ConstructorValue} {ids : List TermId} {vs : ConstructorValues} → IsTermOf ts id v → IsTupleOf ts ids vs → IsTupleOf ts (id ∷ ids) (value_then v vs)

pub data AreTuplesOf (ts : List Tree) : List (List TermId) → List ConstructorValues → Type 0 where
  no_tuples : AreTuplesOf ts [] []
  tuple_then : {ids : List TermId} {vs : ConstructorValues} {idss : List (List TermId)} {vss : List ConstructorValues} → IsTupleOf ts ids vs → AreTuplesOf ts idss vss → AreTuplesOf ts (ids ∷ idss) (vs ∷ vss)

-- the first values of each sort stand in the rows of the weights
abbrev pub HaveValues : Shape → List SortId → ℕ → List Tree → List ValueRow → Type 0
HaveValues sh sorts count ts rows = (w : ℕ) (s : SortId) → w < length rows → Contains sorts s → AreTermsOf ts (values_at rows w s) (take count (values_weighing sh s w))

-- so do the first lists of arguments of each place
abbrev pub HaveTuples : Shape → List (Option SortId) → ℕ → List Tree → List TupleRow → Type 0
HaveTuples sh os count ts rows = (w p : ℕ) → w < length rows → p < length os → AreTuplesOf ts (plain_tuples (tuples_at rows w p)) (take count (tuples_weighing (values_weighing sh) (arguments_at os p) w))

-- the rows of all weights below one, and of 0 at least
pub record AreLevels (g : Sig) (sh : Shapes) (bound : ℕ) (ts : List Tree) (levels : Levels) : Type 0 where
  pub some : 0 < length levels.values.items
  pub same : length levels.tuples.items ≡ length levels.values.items
  pub values : HaveValues (shape_of g sh) sh.sorts.keys (bound + 1) ts levels.values.items
  pub tuples : HaveTuples (shape_of g sh) sh.arguments.items (bound + 1) ts levels.tuples.items

-- the first values of one weight
abbrev pub IsValueRow : Sig → Shapes → ℕ → List Tree → ℕ → ValueRow → Type 0
IsValueRow g sh bound ts w row = (s : SortId) → Contains sh.sorts.keys s → AreTermsOf ts (list_at row.by_sort.items s.0) (take (bound + 1) (values_weighing (shape_of g sh) s w))

-- the first lists of arguments of one weight above 0, by those of the weights below
pub record IsTupleRow (os : List (Option SortId)) (values : List ValueRow) (tuples : List TupleRow) (w bound : ℕ) (row : TupleRow) : Type 0 where
  pub ends : (p : ℕ) → slice_get os p ≡ Some None → plain_tuples (list_at row.by_place.items p) ≡ []
  pub others : (p : ℕ) (a : SortId) → slice_get os p ≡ Some (Some a)
      → plain_tuples (list_at row.by_place.items p) ≡ take (bound + 1) (weighing_up_to (λ id ids. id ∷ ids) (λ n. values_at values n a) (λ n. plain_tuples (tuples_at tuples n (suc p))) w w)

-- the lists of arguments that weigh nothing
pub record IsFirstTupleRow (os : List (Option SortId)) (row : TupleRow) : Type 0 where
  pub ends : (p : ℕ) → slice_get os p ≡ Some None → plain_tuples (list_at row.by_place.items p) ≡ [] ∷ []
  pub others : (p : ℕ) (a : SortId) → slice_get os p ≡ Some (Some a) → plain_tuples (list_at row.by_place.items p) ≡ []

-- ---- values that merge with nothing
abbrev pub argument_trees : ConstructorValues → Trees
argument_trees u = trees_with (λ d. record { 0 = 0 }) u

abbrev pub StandUnmerged : FunId → List ConstructorValues → Type 0
StandUnmerged f us = (u : ConstructorValues) → Contains us u → apply_tree f (argument_trees u) ≡ function f (argument_trees u)

-- ---- how heavy values are
-- the weight of the heaviest value of a sort that is known, or the greatest number where its values aren't bounded
abbrev pub limit_of : List ℕ → List Bool → SortId → ℕ
limit_of heaviest unbounded s = cond (get_or unbounded s.0 false) (2 ^ 64 - 1) (get_or heaviest s.0 0)

abbrev pub total_of : (SortId → ℕ) → List SortId → ℕ
total_of f [] = 0
total_of f (s ∷ ss) = f s + total_of f ss

-- values of these sorts make none that is heavier: a sort has no values, or all that they weigh together is no more
abbrev pub MakeNoHeavier : List ℕ → List Bool → List SortId → ℕ → Type 0
MakeNoHeavier heaviest unbounded ss w = ((s : SortId) × Contains ss s × (limit_of heaviest unbounded s ≡ 0)) ⊎ (1 + total_of (limit_of heaviest unbounded) ss ≤ w)

-- no constructor makes a heavier value of the sort with this number
abbrev pub HasNoHeavier : Shapes → List ℕ → List Bool → ℕ → ℕ → Type 0
HasNoHeavier sh heaviest unbounded w k = (c : Constructor) → Contains (list_at sh.constructors.items k) c → MakeNoHeavier heaviest unbounded (arguments_at sh.arguments.items c.first) w

-- values of these sorts make a heavier one: each sort has one, and all that they weigh together is more
abbrev pub MakeHeavier : List ℕ → List Bool → List SortId → ℕ → Type 0
MakeHeavier heaviest unbounded ss w = ((s : SortId) → Contains ss s → 0 < limit_of heaviest unbounded s) × (w < 1 + total_of (limit_of heaviest unbounded) ss)

-- a constructor makes a heavier value of the sort with this number
abbrev pub HasHeavier : Shapes → List ℕ → List Bool → ℕ → ℕ → Type 0
HasHeavier sh heaviest unbounded w k = (c : Constructor) × Contains (list_at sh.constructors.items k) c × MakeHeavier heaviest unbounded (arguments_at sh.arguments.items c.first) w

-- the known values up to a weight are no heavier than the heaviest
abbrev pub AreHeaviest : Sig → List SortId → List ℕ → ℕ → Type 0
AreHeaviest g sorts heaviest w = (s : SortId) (v : ConstructorValue) → Contains sorts s → IsPlainValueOf g s v → weight v ≤ w → weight v ≤ get_or heaviest s.0 0

-- all values of the sort weigh no more than this
abbrev pub HasNoneAbove : Sig → SortId → ℕ → Type 0
HasNoneAbove g s w = (v : ConstructorValue) → IsPlainValueOf g s v → weight v ≤ w

-- each weight that is noted for a sort is that of one of its values
abbrev pub AreWeightsOfValues : Sig → List SortId → List ℕ → Type 0
AreWeightsOfValues g sorts heaviest = (s : SortId) → Contains sorts s → 0 < get_or heaviest s.0 0 → (v : ConstructorValue) × IsPlainValueOf g s v × (weight v ≡ get_or heaviest s.0 0)

-- a value of the sort weighs more than this
abbrev pub HasOneAbove : Sig → SortId → ℕ → Type 0
HasOneAbove g s w = (v : ConstructorValue) × IsPlainValueOf g s v × (w < weight v)
