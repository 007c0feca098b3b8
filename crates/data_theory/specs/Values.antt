-- The values of closed terms: truth values, whole numbers of any size, lists, constructors over values, unknown elements.
use Rattle.std.specs.Prelude.{◌≡◌, ℕ, zero, suc, ◌+◌, ◌<◌, List, [], ◌∷◌, length, Option, Some, None, Bool, true, false, not, cond, ◌==◌, ◌&&◌, ◌||◌, ℤ, pos, ◌≤ℤ◌}
use lib.IntN.{neg_ℤ}
use Rattle.std.specs.List.{Contains}
use Rattle.data_theory.specs.Terms.{Sort, boolean, positive, natural, integer, list, named, Symbol, truth, falsity, negation, conjunction, disjunction, implication, equality, inequality, conditional, comparison, arithmetic, minus, upcast, empty, cons, snoc, concatenation, size, element_at, head, rhead, tail, rtail, membership, function, Term, Terms, variable, numeral, unknown, application, none, more, put}
use Rattle.data_theory.specs.Declarations.{Data, Role, constructor, projection, recogniser, mapping, without_constructors, function_at, sort_at}
use Rattle.data_theory.specs.Arithmetic.{value_of, compares, equal_numbers}
use Rattle.data_theory.specs.Provable.{Equation, IsClosedInstance}

mutual
  pub data Value : Type 0 where
    a_truth : Bool → Value
    a_number : ℤ → Value
    a_list : Values → Value
    constructed : ℕ → Values → Value  -- by the constructor with this number
    an_unknown : ℕ → ℕ → Value

  pub data Values : Type 0 where
    no_value : Values
    value_then : Value → Values → Values

abbrev pub same_truth : Bool → Bool → Bool
same_truth true b = b
same_truth false b = not b

-- whether two values are the same
abbrev mutual
  pub same_value : Value → Value → Bool
  same_value (a_truth a) (a_truth b) = same_truth a b
  same_value (a_number x) (a_number y) = equal_numbers x y
  same_value (a_list vs) (a_list ws) = same_values vs ws
  same_value (constructed c vs) (constructed d ws) = (c == d) && same_values vs ws
  same_value (an_unknown d i) (an_unknown e j) = (d == e) && (i == j)
  same_value _ _ = false

  pub same_values : Values → Values → Bool
  same_values no_value no_value = true
  same_values (value_then v vs) (value_then w ws) = same_value v w && same_values vs ws
  same_values _ _ = false

-- ---- reading a value, with an answer also where it is of another kind
abbrev pub value_at : Values → ℕ → Value
value_at no_value k = a_truth true
value_at (value_then v vs) zero = v
value_at (value_then v vs) (suc k) = value_at vs k

abbrev pub truth_in : Value → Bool
truth_in (a_truth b) = b
truth_in _ = false

abbrev pub number_in : Value → ℤ
number_in (a_number z) = z
number_in _ = pos 0

abbrev pub list_in : Value → Values
list_in (a_list vs) = vs
list_in _ = no_value

abbrev pub place_in : ℤ → ℕ
place_in (pos n) = n
place_in _ = 0

-- ---- lists of values; the first argument of some is what an empty list or a place past the end gives
abbrev pub joined : Values → Values → Values
joined no_value ws = ws
joined (value_then v vs) ws = value_then v (joined vs ws)

abbrev pub count_of : Values → ℕ
count_of no_value = 0
count_of (value_then v vs) = count_of vs + 1

abbrev pub item_at : Value → Values → ℕ → Value
item_at d no_value k = d
item_at d (value_then v vs) zero = v
item_at d (value_then v vs) (suc k) = item_at d vs k

abbrev pub first_item : Value → Values → Value
first_item d no_value = d
first_item d (value_then v vs) = v

abbrev pub after_first_item : Values → Values
after_first_item no_value = no_value
after_first_item (value_then v vs) = vs

abbrev pub last_item : Value → Values → Value
last_item d no_value = d
last_item d (value_then v vs) = last_item v vs

abbrev pub before_last_from : Value → Values → Values
before_last_from v no_value = no_value
before_last_from v (value_then w ws) = value_then v (before_last_from w ws)

abbrev pub before_last_item : Values → Values
before_last_item no_value = no_value
before_last_item (value_then v vs) = before_last_from v vs

abbrev pub is_among : Value → Values → Bool
is_among v no_value = false
is_among v (value_then w ws) = same_value v w || is_among v ws

abbrev pub number_or : Value → Option ℤ → Value
number_or d None = d
number_or d (Some z) = a_number z

-- ---- constructors
abbrev pub part_of : Value → ℕ → ℕ → Value → Value
part_of d c i (constructed b vs) = cond (b == c) (value_at vs i) d
part_of d c i _ = d

abbrev pub is_made_by : ℕ → Value → Bool
is_made_by c (constructed b vs) = b == c
is_made_by c _ = false

-- a value of each sort, given one of each declared sort
abbrev pub default_value : (ℕ → Value) → Sort → Value
default_value some boolean = a_truth true
default_value some positive = a_number (pos 1)
default_value some natural = a_number (pos 0)
default_value some integer = a_number (pos 0)
default_value some (list s) = a_list no_value
default_value some (named d) = some d

-- An interpretation of what the table leaves open: a value of each declared sort, for the head of the empty list and the like, and
-- what each mapping gives for the values of its arguments.
pub record Interpretation : Type 0 where
  pub of_sort : ℕ → Value
  pub of_mapping : ℕ → Values → Value

-- the interpretation in which each mapping gives the default value of its result's sort
abbrev pub by_defaults : Data → (ℕ → Value) → Interpretation
by_defaults g some = record { of_sort = some; of_mapping = λ k vs. default_value some (function_at g k).result }

-- the value of the declared function k of this result sort and role
abbrev pub function_value : Interpretation → Sort → Role → ℕ → Values → Value
function_value m to constructor k vs = constructed k vs
function_value m to (projection c i) k vs = part_of (default_value m.of_sort to) c i (value_at vs 0)
function_value m to (recogniser c) k vs = a_truth (is_made_by c (value_at vs 0))
function_value m to mapping k vs = m.of_mapping k vs

-- The value of a symbol on values. What the table leaves open, as the head of the empty list, is the default value of the
-- result's sort.
abbrev pub symbol_value : Data → Interpretation → Symbol → Values → Value
symbol_value g m truth vs = a_truth true
symbol_value g m falsity vs = a_truth false
symbol_value g m negation vs = a_truth (not (truth_in (value_at vs 0)))
symbol_value g m conjunction vs = a_truth (truth_in (value_at vs 0) && truth_in (value_at vs 1))
symbol_value g m disjunction vs = a_truth (truth_in (value_at vs 0) || truth_in (value_at vs 1))
symbol_value g m implication vs = a_truth (not (truth_in (value_at vs 0)) || truth_in (value_at vs 1))
symbol_value g m (equality s) vs = a_truth (same_value (value_at vs 0) (value_at vs 1))
symbol_value g m (inequality s) vs = a_truth (not (same_value (value_at vs 0) (value_at vs 1)))
symbol_value g m (conditional s) vs = cond (truth_in (value_at vs 0)) (value_at vs 1) (value_at vs 2)
symbol_value g m (comparison c s) vs = a_truth (compares c (number_in (value_at vs 0)) (number_in (value_at vs 1)))
symbol_value g m (arithmetic op ss to) vs = number_or (default_value m.of_sort to) (value_of op (number_in (value_at vs 0)) (number_in (value_at vs 1)))
symbol_value g m (minus s) vs = a_number (neg_ℤ (number_in (value_at vs 0)))
symbol_value g m (upcast s to) vs = a_number (number_in (value_at vs 0))
symbol_value g m (empty s) vs = a_list no_value
symbol_value g m (cons s) vs = a_list (value_then (value_at vs 0) (list_in (value_at vs 1)))
symbol_value g m (snoc s) vs = a_list (joined (list_in (value_at vs 0)) (value_then (value_at vs 1) no_value))
symbol_value g m (concatenation s) vs = a_list (joined (list_in (value_at vs 0)) (list_in (value_at vs 1)))
symbol_value g m (size s) vs = a_number (pos (count_of (list_in (value_at vs 0))))
symbol_value g m (element_at s) vs = item_at (default_value m.of_sort s) (list_in (value_at vs 0)) (place_in (number_in (value_at vs 1)))
symbol_value g m (head s) vs = first_item (default_value m.of_sort s) (list_in (value_at vs 0))
symbol_value g m (rhead s) vs = last_item (default_value m.of_sort s) (list_in (value_at vs 0))
symbol_value g m (tail s) vs = a_list (after_first_item (list_in (value_at vs 0)))
symbol_value g m (rtail s) vs = a_list (before_last_item (list_in (value_at vs 0)))
symbol_value g m (membership s) vs = a_truth (is_among (value_at vs 0) (list_in (value_at vs 1)))
symbol_value g m (function k) vs = function_value m (function_at g k).result (function_at g k).role k vs

-- the value of a closed term
abbrev mutual
  pub value : Data → Interpretation → Term → Value
  value g m (variable v) = a_truth true
  value g m (numeral s z) = a_number z
  value g m (unknown d k) = an_unknown d k
  value g m (application f ts) = symbol_value g m f (values g m ts)

  pub values : Data → Interpretation → Terms → Values
  values g m none = no_value
  values g m (more t ts) = value_then (value g m t) (values g m ts)

-- the values of a sort
abbrev mutual
  pub IsValue : Data → Sort → Value → Type 0
  IsValue g boolean (a_truth b) = Unit {0}
  IsValue g positive (a_number z) = pos 1 ≤ℤ z
  IsValue g natural (a_number z) = pos 0 ≤ℤ z
  IsValue g integer (a_number z) = Unit {0}
  IsValue g (list s) (a_list vs) = AllAreValues g s vs
  IsValue g (named d) (constructed c vs) = ((function_at g c).role ≡ constructor) × ((function_at g c).result ≡ named d) × AreValues g (function_at g c).arguments vs
  IsValue g (named d) (an_unknown e i) = (d ≡ e) × (sort_at g d ≡ without_constructors)
  IsValue g _ _ = ⊥

  pub AllAreValues : Data → Sort → Values → Type 0
  AllAreValues g s no_value = Unit {0}
  AllAreValues g s (value_then v vs) = IsValue g s v × AllAreValues g s vs

  pub AreValues : Data → List Sort → Values → Type 0
  AreValues g [] no_value = Unit {0}
  AreValues g (s ∷ ss) (value_then v vs) = IsValue g s v × AreValues g ss vs
  AreValues g _ _ = ⊥

-- an interpretation that keeps sorts: each declared sort gets one of its values, and a mapping gives a value of its result's sort
-- for values of its arguments' sorts
pub record KeepsSorts (g : Data) (m : Interpretation) : Type 0 where
  pub sorts : (d : ℕ) → d < length g.sorts → IsValue g (named d) (m.of_sort d)
  pub mappings : (k : ℕ) (vs : Values) → k < length g.functions → (function_at g k).role ≡ mapping → AreValues g (function_at g k).arguments vs → IsValue g (function_at g k).result (m.of_mapping k vs)

-- the written equations hold of the values
abbrev pub HoldOfValues : Data → Interpretation → List Equation → Type 0
HoldOfValues g m own =
    (q : Equation) (e : ℕ → Term) → Contains own q → IsClosedInstance g q e
    → value g m (put e q.condition) ≡ a_truth true → value g m (put e q.left) ≡ value g m (put e q.right)
