-- The built-in equations, a constructor for each line of the table.
use Rattle.std.specs.Prelude.{zero, suc, ◌≡◌, ◌≢◌, ℕ, ◌<◌, ◌^◌, List, [], ◌∷◌, Some, Bool, cond, ℤ, pos}
use lib.IntN.{neg_ℤ}
use Rattle.data_theory.specs.Terms.{Sort, boolean, positive, natural, integer, list, named, Comparison, less, Operation, subtract, successor, to_natural, Symbol, truth, falsity, negation, conjunction, disjunction, implication, equality, inequality, conditional, comparison, arithmetic, minus, upcast, empty, cons, snoc, concatenation, size, element_at, head, rhead, tail, rtail, membership, function, Term, Terms, numeral, application, none, more}
use Rattle.data_theory.specs.Declarations.{Data, function_at, sort_at, constructor, projection, recogniser, structured}
use Rattle.data_theory.specs.Arithmetic.{value_of, compares, equal_numbers, magnitude}

-- ---- how the table writes its terms
abbrev pub one : Symbol → Term → Term
one f x = application f (more x none)

abbrev pub two : Symbol → Term → Term → Term
two f x y = application f (more x (more y none))

abbrev pub trueᵗ : Term
trueᵗ = application truth none

abbrev pub falseᵗ : Term
falseᵗ = application falsity none

infix 60 !ᵗ◌
abbrev pub !ᵗ◌ : Term → Term
!ᵗ x = one negation x

infixr 40 ◌∧ᵗ◌
abbrev pub ◌∧ᵗ◌ : Term → Term → Term
x ∧ᵗ y = two conjunction x y

infixr 35 ◌∨ᵗ◌
abbrev pub ◌∨ᵗ◌ : Term → Term → Term
x ∨ᵗ y = two disjunction x y

infixr 30 ◌⇒ᵗ◌
abbrev pub ◌⇒ᵗ◌ : Term → Term → Term
x ⇒ᵗ y = two implication x y

-- x == y at the sort s
abbrev pub equals : Sort → Term → Term → Term
equals s x y = two (equality s) x y

-- if(b, x, y) at the sort s
abbrev pub chooses : Sort → Term → Term → Term → Term
chooses s b x y = application (conditional s) (more b (more x (more y none)))

-- [] and x |> l over the elements' sort s
abbrev pub emptyᵗ : Sort → Term
emptyᵗ s = application (empty s) none

abbrev pub consᵗ : Sort → Term → Term → Term
consᵗ s x l = two (cons s) x l

abbrev pub number : ℕ → Term
number n = numeral natural (pos n)

abbrev pub truth_of : Bool → Term
truth_of b = cond b trueᵗ falseᵗ

-- the equalities of two lists of arguments of these sorts, joined to the right; `true` for none
abbrev pub all_equal : List Sort → Terms → Terms → Term
all_equal (s ∷ []) (more x none) (more y none) = equals s x y
all_equal (s ∷ ss) (more x xs) (more y ys) = equals s x y ∧ᵗ all_equal ss xs ys
all_equal _ _ _ = trueᵗ

-- the term at a place from 0
abbrev pub term_at : Terms → ℕ → Term
term_at none k = trueᵗ
term_at (more t ts) zero = t
term_at (more t ts) (suc k) = term_at ts k

-- BuiltIn g c l r: where c is provably true, l equals r. The letters of a line stand for any terms; a derivation asks that
-- the left side is a well-sorted closed term. The lines marked (d) are for derivations alone.
pub data BuiltIn (g : Data) : Term → Term → Term → Type 0 where
  -- Bool
  not_true : BuiltIn g trueᵗ (!ᵗ trueᵗ) falseᵗ
  not_false : BuiltIn g trueᵗ (!ᵗ falseᵗ) trueᵗ
  not_not : {x : Term} → BuiltIn g trueᵗ (!ᵗ (!ᵗ x)) x
  true_and : {x : Term} → BuiltIn g trueᵗ (trueᵗ ∧ᵗ x) x
  and_true : {x : Term} → BuiltIn g trueᵗ (x ∧ᵗ trueᵗ) x
  false_and : {x : Term} → BuiltIn g trueᵗ (falseᵗ ∧ᵗ x) falseᵗ
  and_false : {x : Term} → BuiltIn g trueᵗ (x ∧ᵗ falseᵗ) falseᵗ
  and_same : {x : Term} → BuiltIn g trueᵗ (x ∧ᵗ x) x
  true_or : {x : Term} → BuiltIn g trueᵗ (trueᵗ ∨ᵗ x) trueᵗ
  or_true : {x : Term} → BuiltIn g trueᵗ (x ∨ᵗ trueᵗ) trueᵗ
  false_or : {x : Term} → BuiltIn g trueᵗ (falseᵗ ∨ᵗ x) x
  or_false : {x : Term} → BuiltIn g trueᵗ (x ∨ᵗ falseᵗ) x
  or_same : {x : Term} → BuiltIn g trueᵗ (x ∨ᵗ x) x
  true_implies : {x : Term} → BuiltIn g trueᵗ (trueᵗ ⇒ᵗ x) x
  false_implies : {x : Term} → BuiltIn g trueᵗ (falseᵗ ⇒ᵗ x) trueᵗ
  implies : {x y : Term} → BuiltIn g trueᵗ (x ⇒ᵗ y) (!ᵗ x ∨ᵗ y)
  and_commutes : {x y : Term} → BuiltIn g trueᵗ (x ∧ᵗ y) (y ∧ᵗ x)  -- (d)
  or_commutes : {x y : Term} → BuiltIn g trueᵗ (x ∨ᵗ y) (y ∨ᵗ x)  -- (d)
  and_associates : {x y z : Term} → BuiltIn g trueᵗ ((x ∧ᵗ y) ∧ᵗ z) (x ∧ᵗ (y ∧ᵗ z))  -- (d)
  or_associates : {x y z : Term} → BuiltIn g trueᵗ ((x ∨ᵗ y) ∨ᵗ z) (x ∨ᵗ (y ∨ᵗ z))  -- (d)
  and_distributes : {x y z : Term} → BuiltIn g trueᵗ (x ∧ᵗ (y ∨ᵗ z)) ((x ∧ᵗ y) ∨ᵗ (x ∧ᵗ z))  -- (d)
  or_distributes : {x y z : Term} → BuiltIn g trueᵗ (x ∨ᵗ (y ∧ᵗ z)) ((x ∨ᵗ y) ∧ᵗ (x ∨ᵗ z))  -- (d)
  and_absorbs : {x y : Term} → BuiltIn g trueᵗ (x ∧ᵗ (x ∨ᵗ y)) x  -- (d)
  or_absorbs : {x y : Term} → BuiltIn g trueᵗ (x ∨ᵗ (x ∧ᵗ y)) x  -- (d)
  not_and : {x y : Term} → BuiltIn g trueᵗ (!ᵗ (x ∧ᵗ y)) (!ᵗ x ∨ᵗ !ᵗ y)  -- (d)
  not_or : {x y : Term} → BuiltIn g trueᵗ (!ᵗ (x ∨ᵗ y)) (!ᵗ x ∧ᵗ !ᵗ y)  -- (d)
  and_not : {x : Term} → BuiltIn g trueᵗ (x ∧ᵗ !ᵗ x) falseᵗ  -- (d)
  or_not : {x : Term} → BuiltIn g trueᵗ (x ∨ᵗ !ᵗ x) trueᵗ  -- (d)
  -- every sort
  equal_itself : {s : Sort} {x : Term} → BuiltIn g trueᵗ (equals s x x) trueᵗ
  not_equal : {s : Sort} {x y : Term} → BuiltIn g trueᵗ (two (inequality s) x y) (!ᵗ (equals s x y))
  if_true : {s : Sort} {x y : Term} → BuiltIn g trueᵗ (chooses s trueᵗ x y) x
  if_false : {s : Sort} {x y : Term} → BuiltIn g trueᵗ (chooses s falseᵗ x y) y
  if_same : {s : Sort} {b x : Term} → BuiltIn g trueᵗ (chooses s b x x) x
  equal_commutes : {s : Sort} {x y : Term} → BuiltIn g trueᵗ (equals s x y) (equals s y x)  -- (d)
  -- Bool equality
  equal_true : {x : Term} → BuiltIn g trueᵗ (equals boolean x trueᵗ) x
  true_equal : {x : Term} → BuiltIn g trueᵗ (equals boolean trueᵗ x) x
  equal_false : {x : Term} → BuiltIn g trueᵗ (equals boolean x falseᵗ) (!ᵗ x)
  false_equal : {x : Term} → BuiltIn g trueᵗ (equals boolean falseᵗ x) (!ᵗ x)
  -- numbers, where the result ends at 2^128 - 1
  operation_of_one : {op : Operation} {a to : Sort} {x z : ℤ} → value_of op x (pos 0) ≡ Some z → magnitude z < 2 ^ 128 → BuiltIn g trueᵗ (one (arithmetic op (a ∷ []) to) (numeral a x)) (numeral to z)
  operation_of_two : {op : Operation} {a b to : Sort} {x y z : ℤ} → value_of op x y ≡ Some z → magnitude z < 2 ^ 128 → BuiltIn g trueᵗ (two (arithmetic op (a ∷ b ∷ []) to) (numeral a x) (numeral b y)) (numeral to z)
  minus_of : {a : Sort} {x : ℤ} → magnitude x < 2 ^ 128 → BuiltIn g trueᵗ (one (minus a) (numeral a x)) (numeral integer (neg_ℤ x))
  compared : {c : Comparison} {s : Sort} {x y : ℤ} → BuiltIn g trueᵗ (two (comparison c s) (numeral s x) (numeral s y)) (truth_of (compares c x y))
  equal_numerals : {s : Sort} {x y : ℤ} → BuiltIn g trueᵗ (equals s (numeral s x) (numeral s y)) (truth_of (equal_numbers x y))
  -- lists
  empty_equal_cons : {s : Sort} {x l : Term} → BuiltIn g trueᵗ (equals (list s) (emptyᵗ s) (consᵗ s x l)) falseᵗ
  cons_equal_empty : {s : Sort} {x l : Term} → BuiltIn g trueᵗ (equals (list s) (consᵗ s x l) (emptyᵗ s)) falseᵗ
  cons_equal_cons : {s : Sort} {x l y m : Term} → BuiltIn g trueᵗ (equals (list s) (consᵗ s x l) (consᵗ s y m)) (equals s x y ∧ᵗ equals (list s) l m)
  empty_concat : {s : Sort} {l : Term} → BuiltIn g trueᵗ (two (concatenation s) (emptyᵗ s) l) l
  concat_empty : {s : Sort} {l : Term} → BuiltIn g trueᵗ (two (concatenation s) l (emptyᵗ s)) l
  cons_concat : {s : Sort} {x l m : Term} → BuiltIn g trueᵗ (two (concatenation s) (consᵗ s x l) m) (consᵗ s x (two (concatenation s) l m))
  empty_snoc : {s : Sort} {x : Term} → BuiltIn g trueᵗ (two (snoc s) (emptyᵗ s) x) (consᵗ s x (emptyᵗ s))
  cons_snoc : {s : Sort} {x y l : Term} → BuiltIn g trueᵗ (two (snoc s) (consᵗ s y l) x) (consᵗ s y (two (snoc s) l x))
  size_empty : {s : Sort} → BuiltIn g trueᵗ (one (size s) (emptyᵗ s)) (number 0)
  size_cons : {s : Sort} {x l : Term} → BuiltIn g trueᵗ (one (size s) (consᵗ s x l)) (one (upcast positive natural) (one (arithmetic successor (natural ∷ []) positive) (one (size s) l)))
  head_cons : {s : Sort} {x l : Term} → BuiltIn g trueᵗ (one (head s) (consᵗ s x l)) x
  tail_cons : {s : Sort} {x l : Term} → BuiltIn g trueᵗ (one (tail s) (consᵗ s x l)) l
  rhead_one : {s : Sort} {x : Term} → BuiltIn g trueᵗ (one (rhead s) (consᵗ s x (emptyᵗ s))) x
  rhead_more : {s : Sort} {x y l : Term} → BuiltIn g trueᵗ (one (rhead s) (consᵗ s x (consᵗ s y l))) (one (rhead s) (consᵗ s y l))
  rtail_one : {s : Sort} {x : Term} → BuiltIn g trueᵗ (one (rtail s) (consᵗ s x (emptyᵗ s))) (emptyᵗ s)
  rtail_more : {s : Sort} {x y l : Term} → BuiltIn g trueᵗ (one (rtail s) (consᵗ s x (consᵗ s y l))) (consᵗ s x (one (rtail s) (consᵗ s y l)))
  at_zero : {s : Sort} {x l : Term} → BuiltIn g trueᵗ (two (element_at s) (consᵗ s x l) (number 0)) x
  at_later : {s : Sort} {x l n : Term} → BuiltIn g (two (comparison less natural) (number 0) n) (two (element_at s) (consᵗ s x l) n) (two (element_at s) l (one (arithmetic to_natural (integer ∷ []) natural) (two (arithmetic subtract (natural ∷ natural ∷ []) integer) n (number 1))))
  in_empty : {s : Sort} {x : Term} → BuiltIn g trueᵗ (two (membership s) x (emptyᵗ s)) falseᵗ
  in_cons : {s : Sort} {x y l : Term} → BuiltIn g trueᵗ (two (membership s) x (consᵗ s y l)) (equals s x y ∨ᵗ two (membership s) x l)
  -- structured sorts
  different_constructors : {d b c : ℕ} {xs ys : Terms} → sort_at g d ≡ structured → (function_at g b).role ≡ constructor → (function_at g c).role ≡ constructor → b ≢ c → BuiltIn g trueᵗ (equals (named d) (application (function b) xs) (application (function c) ys)) falseᵗ
  same_constructor : {d c : ℕ} {xs ys : Terms} → sort_at g d ≡ structured → (function_at g c).role ≡ constructor → BuiltIn g trueᵗ (equals (named d) (application (function c) xs) (application (function c) ys)) (all_equal (function_at g c).arguments xs ys)
  projected : {p c i : ℕ} {xs : Terms} → (function_at g p).role ≡ projection c i → BuiltIn g trueᵗ (one (function p) (application (function c) xs)) (term_at xs i)
  recognised : {r c : ℕ} {xs : Terms} → (function_at g r).role ≡ recogniser c → BuiltIn g trueᵗ (one (function r) (application (function c) xs)) trueᵗ
  not_recognised : {r b c : ℕ} {xs : Terms} → (function_at g r).role ≡ recogniser c → (function_at g b).role ≡ constructor → b ≢ c → BuiltIn g trueᵗ (one (function r) (application (function b) xs)) falseᵗ
