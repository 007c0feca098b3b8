-- Sorts, function symbols and terms.
use Rattle.std.specs.Prelude.{ℕ, List, [], ◌∷◌, ◌++◌, cond, ℤ, pos}
use lib.Signed.{lt_z}
use lib.IntN.{neg_ℤ}

-- a sort: Bool, Pos, Nat, Int, the lists over a sort, or the sort that was declared with this number, from 0
pub data Sort : Type 0 where
  boolean : Sort
  positive : Sort
  natural : Sort
  integer : Sort
  list : Sort → Sort
  named : ℕ → Sort

-- the signs < <= > >=
pub data Comparison : Type 0 where
  less : Comparison
  at_most : Comparison
  greater : Comparison
  at_least : Comparison

-- the operations on numbers: infix + - * div mod, then exp min max abs succ pred, and the casts to Pos and to Nat from above
pub data Operation : Type 0 where
  add : Operation
  subtract : Operation
  multiply : Operation
  divide : Operation
  modulo : Operation
  power : Operation
  minimum : Operation
  maximum : Operation
  absolute : Operation
  successor : Operation
  predecessor : Operation
  to_positive : Operation
  to_natural : Operation

-- a function symbol carries its sorts, so that one name at two signatures is two symbols
pub data Symbol : Type 0 where
  truth : Symbol  -- true
  falsity : Symbol  -- false
  negation : Symbol  -- !
  conjunction : Symbol  -- &&
  disjunction : Symbol  -- ||
  implication : Symbol  -- =>
  equality : Sort → Symbol  -- ==
  inequality : Sort → Symbol  -- !=
  conditional : Sort → Symbol  -- if
  comparison : Comparison → Sort → Symbol
  arithmetic : Operation → List Sort → Sort → Symbol  -- with the sorts of the arguments and of the result
  minus : Sort → Symbol  -- prefix -
  upcast : Sort → Sort → Symbol  -- Pos2Nat, Nat2Int, Pos2Int
  empty : Sort → Symbol  -- []
  cons : Sort → Symbol  -- |>
  snoc : Sort → Symbol  -- <|
  concatenation : Sort → Symbol  -- ++
  size : Sort → Symbol  -- #
  element_at : Sort → Symbol  -- infix .
  head : Sort → Symbol
  rhead : Sort → Symbol
  tail : Sort → Symbol
  rtail : Sort → Symbol
  membership : Sort → Symbol  -- in
  function : ℕ → Symbol  -- the function that was declared with this number, from 0

-- A term is a variable, a numeral of a sort, an unknown element of a declared sort without constructors, or a symbol
-- applied to a list of terms.
mutual
  pub data Term : Type 0 where
    variable : ℕ → Term
    numeral : Sort → ℤ → Term
    unknown : ℕ → ℕ → Term
    application : Symbol → Terms → Term

  pub data Terms : Type 0 where
    none : Terms
    more : Term → Terms → Terms

-- a minus sign before the numeral of a sort: above zero it is the negative numeral
abbrev pub negated : Sort → ℤ → Term
negated s z = cond (lt_z (pos 0) z) (numeral integer (neg_ℤ z)) (application (minus s) (more (numeral s z) none))

-- The application that merges: an upcast of a numeral of its sort is the numeral of the wider sort, and a minus sign merges
-- with a numeral above zero.
abbrev pub apply : Symbol → Terms → Term
apply (upcast positive natural) (more (numeral positive z) none) = numeral natural z
apply (upcast natural integer) (more (numeral natural z) none) = numeral integer z
apply (upcast positive integer) (more (numeral positive z) none) = numeral integer z
apply (minus positive) (more (numeral positive z) none) = negated positive z
apply (minus natural) (more (numeral natural z) none) = negated natural z
apply (minus integer) (more (numeral integer z) none) = negated integer z
apply f ts = application f ts

-- Substitution: terms put in for all variables at once, and what can merge then merges.
abbrev mutual
  pub put : (ℕ → Term) → Term → Term
  put e (variable v) = e v
  put e (numeral a z) = numeral a z
  put e (unknown d k) = unknown d k
  put e (application f ts) = apply f (put_all e ts)

  pub put_all : (ℕ → Term) → Terms → Terms
  put_all e none = none
  put_all e (more t ts) = more (put e t) (put_all e ts)

-- the variables of a term, in the order in which they stand, each as often as it stands
abbrev mutual
  pub variables_of : Term → List ℕ
  variables_of (variable v) = v ∷ []
  variables_of (numeral a z) = []
  variables_of (unknown d k) = []
  variables_of (application f ts) = variables_of_all ts

  pub variables_of_all : Terms → List ℕ
  variables_of_all none = []
  variables_of_all (more t ts) = variables_of t ++ variables_of_all ts

-- a term without variables
abbrev mutual
  pub IsClosed : Term → Type 0
  IsClosed (variable v) = ⊥
  IsClosed (numeral a z) = Unit {0}
  IsClosed (unknown d k) = Unit {0}
  IsClosed (application f ts) = AreClosed ts

  pub AreClosed : Terms → Type 0
  AreClosed none = Unit {0}
  AreClosed (more t ts) = IsClosed t × AreClosed ts
