-- Counting down: the variables that a condition keeps above the least value of their sorts, and the terms that are less than one.
use Rattle.std.specs.Prelude.{◌≡◌, ℕ, Option, None, Some, Bool, false, true, cond, ℤ, pos}
use Rattle.std.specs.List.{Contains}
use lib.Signed.{lt_z, le_z}
use Rattle.data_theory.specs.Terms.{Sort, positive, natural, subtract, to_positive, to_natural, Symbol, arithmetic, minus, empty, tail, rtail, Term, variable, numeral, application, none, more}
use Rattle.data_theory.specs.Arithmetic.{equal_numbers}
use Rattle.eqn_check.specs.Conditions.{parts, Relation, below, up_to, equal, different, Reading, reading}

-- the variable that a term is
abbrev pub variable_in : Term → Option ℕ
variable_in (variable x) = Some x
variable_in _ = None

-- ---- what is above the least value
-- counting ends at 1 at Pos, and at 0 at Nat and Int
abbrev pub least : Sort → ℤ
least positive = pos 1
least _ = pos 0

-- a numeral of at least this
abbrev pub is_from_least : Term → Bool
is_from_least (numeral s c) = le_z (least s) c
is_from_least _ = false

-- a numeral above this
abbrev pub is_above_least : Term → Bool
is_above_least (numeral s c) = lt_z (least s) c
is_above_least _ = false

-- the term is the least value of its sort: 1 at Pos, 0 at Nat, `[]`
abbrev pub is_least : Term → Bool
is_least (numeral positive c) = equal_numbers c (pos 1)
is_least (numeral natural c) = equal_numbers c (pos 0)
is_least (application (empty s) ts) = true
is_least _ = false

-- the variable that is above the least value of its sort where the terms are so related
abbrev pub kept_above_by : Relation → Term → Term → Option ℕ
kept_above_by below u v = cond (is_from_least u) (variable_in v) None
kept_above_by up_to u v = cond (is_above_least u) (variable_in v) None
kept_above_by different u v = cond (is_least v) (variable_in u) (cond (is_least u) (variable_in v) None)
kept_above_by equal u v = None

abbrev pub kept_above_in : Option Reading → Option ℕ
kept_above_in None = None
kept_above_in (Some r) = kept_above_by r.relation r.one r.other

-- the one that a part of a condition keeps there
abbrev pub kept_above : Term → Option ℕ
kept_above p = kept_above_in (reading p)

-- a part of the condition keeps the variable above the least value
abbrev pub IsKeptAbove : Term → ℕ → Type 0
IsKeptAbove c x = (p : Term) × Contains (parts c) p × (kept_above p ≡ Some x)

-- ---- what is less
-- the sign `-` (with two arguments it is the infix one)
abbrev pub is_minus : Symbol → Bool
is_minus (arithmetic subtract ss to) = true
is_minus (minus s) = true
is_minus _ = false

-- a numeral of at least 1
abbrev pub is_from_one : Term → Bool
is_from_one (numeral s m) = le_z (pos 1) m
is_from_one _ = false

-- the variable x of `x - m`, with such a numeral m
abbrev pub counted_down : Term → Option ℕ
counted_down (application f (more t (more m none))) = cond (is_minus f) (cond (is_from_one m) (variable_in t) None) None
counted_down _ = None

-- the variable than which a function of the term is less: a cast of `x - m` to Pos or Nat, `tail(x)` and `rtail(x)`
abbrev pub lessened_by : Symbol → Term → Option ℕ
lessened_by (arithmetic to_positive ss to) t = counted_down t
lessened_by (arithmetic to_natural ss to) t = counted_down t
lessened_by (tail s) t = variable_in t
lessened_by (rtail s) t = variable_in t
lessened_by _ t = None

-- the variable than which the term is less
abbrev pub lessened : Term → Option ℕ
lessened (application f (more t none)) = lessened_by f t
lessened t = counted_down t
