-- At a place of the order, a term has at most one condition and one right side.
use Rattle.std.proofs.Common.{◌≡◌, ℕ, ◌<◌, List, [], ◌∷◌, get_or, cond, ◌==◌, ◌∙◌, refl, sym, ap, subst, arith}
use Rattle.std.specs.Prelude.{Option, Some, None, ℤ, pos}
use lib.IntN.{neg_ℤ}
use Rattle.data_theory.specs.Terms.{Sort, boolean, positive, natural, integer, subtract, successor, to_natural, Symbol, truth, equality, inequality, conditional, comparison, arithmetic, upcast, empty, cons, snoc, concatenation, size, element_at, head, rhead, tail, rtail, membership, function, less, Term, Terms, numeral, application, none}
use Rattle.data_theory.specs.Declarations.{Data, function_at, Role, projection}
use Rattle.data_theory.specs.Arithmetic.{value_of, compares, equal_numbers}
use Rattle.data_theory.specs.Equations.{BuiltIn, one, two, trueᵗ, falseᵗ, !ᵗ◌, ◌∧ᵗ◌, ◌∨ᵗ◌, equals, emptyᵗ, consᵗ, number, truth_of, all_equal, term_at, not_true, not_false, not_not, true_and, and_true, false_and, and_false, and_same, true_or, or_true, false_or, or_false, or_same, true_implies, false_implies, implies, equal_itself, not_equal, if_true, if_false, if_same, equal_true, true_equal, equal_false, false_equal, operation_of_one, operation_of_two, minus_of, compared, equal_numerals, empty_equal_cons, cons_equal_empty, cons_equal_cons, empty_concat, concat_empty, cons_concat, empty_snoc, cons_snoc, size_empty, size_cons, head_cons, tail_cons, rhead_one, rhead_more, rtail_one, rtail_more, at_zero, at_later, in_empty, in_cons, different_constructors, same_constructor, projected, recognised, not_recognised}
use Rattle.data_theory.specs.Rewriting.{lines, place_of}

-- ---- what a term has at its root
abbrev symbol_of : Term → Symbol
symbol_of (application f ts) = f
symbol_of _ = truth

abbrev arguments : Term → Terms
arguments (application f ts) = ts
arguments _ = none

abbrev argument : Term → ℕ → Term
argument t i = term_at (arguments t) i

abbrev whole_in : Term → ℤ
whole_in (numeral a z) = z
whole_in _ = pos 0

abbrev sort_of : Symbol → Sort
sort_of (equality s) = s
sort_of (inequality s) = s
sort_of (conditional s) = s
sort_of (empty s) = s
sort_of (cons s) = s
sort_of (snoc s) = s
sort_of (concatenation s) = s
sort_of (size s) = s
sort_of (element_at s) = s
sort_of (head s) = s
sort_of (rhead s) = s
sort_of (tail s) = s
sort_of (rtail s) = s
sort_of (membership s) = s
sort_of _ = boolean

abbrev number_of : Symbol → ℕ
number_of (function k) = k
number_of _ = 0

abbrev place_in_role : Role → ℕ
place_in_role (projection c i) = i
place_in_role _ = 0

abbrev whole_or_none : Option ℤ → ℤ
whole_or_none None = pos 0
whole_or_none (Some z) = z

abbrev result_of : Symbol → ℤ → ℤ → Term
result_of (arithmetic op ss to) x y = numeral to (whole_or_none (value_of op x y))
result_of _ x y = trueᵗ

abbrev comparison_result : Symbol → ℤ → ℤ → Term
comparison_result (comparison c s) x y = truth_of (compares c x y)
comparison_result _ x y = trueᵗ

abbrev nothing : Term → Term
nothing l = trueᵗ

-- the right side at each place of the order, read off the left side
abbrev rights : Data → List (Term → Term)
rights g =
    (λ l. falseᵗ)
    ∷ (λ l. trueᵗ)
    ∷ (λ l. argument (argument l 0) 0)
    ∷ (λ l. argument l 1)
    ∷ (λ l. argument l 0)
    ∷ (λ l. falseᵗ)
    ∷ (λ l. falseᵗ)
    ∷ (λ l. argument l 0)
    ∷ (λ l. trueᵗ)
    ∷ (λ l. trueᵗ)
    ∷ (λ l. argument l 1)
    ∷ (λ l. argument l 0)
    ∷ (λ l. argument l 0)
    ∷ (λ l. argument l 1)
    ∷ (λ l. trueᵗ)
    ∷ (λ l. !ᵗ (argument l 0) ∨ᵗ (argument l 1))
    ∷ (λ l. trueᵗ)
    ∷ (λ l. !ᵗ (equals (sort_of (symbol_of l)) (argument l 0) (argument l 1)))
    ∷ (λ l. argument l 1)
    ∷ (λ l. argument l 2)
    ∷ (λ l. argument l 1)
    ∷ (λ l. argument l 0)
    ∷ (λ l. argument l 1)
    ∷ (λ l. !ᵗ (argument l 0))
    ∷ (λ l. !ᵗ (argument l 1))
    ∷ (λ l. result_of (symbol_of l) (whole_in (argument l 0)) (pos 0))
    ∷ (λ l. result_of (symbol_of l) (whole_in (argument l 0)) (whole_in (argument l 1)))
    ∷ (λ l. numeral integer (neg_ℤ (whole_in (argument l 0))))
    ∷ (λ l. comparison_result (symbol_of l) (whole_in (argument l 0)) (whole_in (argument l 1)))
    ∷ (λ l. truth_of (equal_numbers (whole_in (argument l 0)) (whole_in (argument l 1))))
    ∷ (λ l. falseᵗ)
    ∷ (λ l. falseᵗ)
    ∷ (λ l. equals (sort_of (symbol_of (argument l 0))) (argument (argument l 0) 0) (argument (argument l 1) 0) ∧ᵗ equals (sort_of (symbol_of l)) (argument (argument l 0) 1) (argument (argument l 1) 1))
    ∷ (λ l. argument l 1)
    ∷ (λ l. argument l 0)
    ∷ (λ l. consᵗ (sort_of (symbol_of l)) (argument (argument l 0) 0) (two (symbol_of l) (argument (argument l 0) 1) (argument l 1)))
    ∷ (λ l. consᵗ (sort_of (symbol_of l)) (argument l 1) (emptyᵗ (sort_of (symbol_of l))))
    ∷ (λ l. consᵗ (sort_of (symbol_of l)) (argument (argument l 0) 0) (two (symbol_of l) (argument (argument l 0) 1) (argument l 1)))
    ∷ (λ l. number 0)
    ∷ (λ l. one (upcast positive natural) (one (arithmetic successor (natural ∷ []) positive) (one (symbol_of l) (argument (argument l 0) 1))))
    ∷ (λ l. argument (argument l 0) 0)
    ∷ (λ l. argument (argument l 0) 1)
    ∷ (λ l. argument (argument l 0) 0)
    ∷ (λ l. one (symbol_of l) (argument (argument l 0) 1))
    ∷ (λ l. argument (argument l 0) 1)
    ∷ (λ l. consᵗ (sort_of (symbol_of l)) (argument (argument l 0) 0) (one (symbol_of l) (argument (argument l 0) 1)))
    ∷ (λ l. argument (argument l 0) 0)
    ∷ (λ l. two (symbol_of l) (argument (argument l 0) 1) (one (arithmetic to_natural (integer ∷ []) natural) (two (arithmetic subtract (natural ∷ natural ∷ []) integer) (argument l 1) (number 1))))
    ∷ (λ l. falseᵗ)
    ∷ (λ l. equals (sort_of (symbol_of l)) (argument l 0) (argument (argument l 1) 0) ∨ᵗ two (symbol_of l) (argument l 0) (argument (argument l 1) 1))
    ∷ (λ l. falseᵗ)
    ∷ (λ l. all_equal (function_at g (number_of (symbol_of (argument l 0)))).arguments (arguments (argument l 0)) (arguments (argument l 1)))
    ∷ (λ l. term_at (arguments (argument l 0)) (place_in_role (function_at g (number_of (symbol_of l))).role))
    ∷ (λ l. trueᵗ)
    ∷ (λ l. falseᵗ)
    ∷ []

-- and the condition
abbrev conditions : ℕ → Term → Term
conditions k l = cond (k == 47) (two (comparison less natural) (number 0) (argument l 1)) trueᵗ

abbrev IsRight : Data → Option ℕ → Term → Term → Term → Type 0
IsRight g None c l r = Unit {0}
IsRight g (Some k) c l r = (k < lines) × (c ≡ conditions k l) × (r ≡ get_or (rights g) k nothing l)

is_right : {g : Data} {c l r : Term} (b : BuiltIn g c l r) → IsRight g (place_of b) c l r
is_right not_true = (omega arith, refl, refl)
is_right not_false = (omega arith, refl, refl)
is_right not_not = (omega arith, refl, refl)
is_right true_and = (omega arith, refl, refl)
is_right and_true = (omega arith, refl, refl)
is_right false_and = (omega arith, refl, refl)
is_right and_false = (omega arith, refl, refl)
is_right and_same = (omega arith, refl, refl)
is_right true_or = (omega arith, refl, refl)
is_right or_true = (omega arith, refl, refl)
is_right false_or = (omega arith, refl, refl)
is_right or_false = (omega arith, refl, refl)
is_right or_same = (omega arith, refl, refl)
is_right true_implies = (omega arith, refl, refl)
is_right false_implies = (omega arith, refl, refl)
is_right implies = (omega arith, refl, refl)
is_right equal_itself = (omega arith, refl, refl)
is_right not_equal = (omega arith, refl, refl)
is_right if_true = (omega arith, refl, refl)
is_right if_false = (omega arith, refl, refl)
is_right if_same = (omega arith, refl, refl)
is_right equal_true = (omega arith, refl, refl)
is_right true_equal = (omega arith, refl, refl)
is_right equal_false = (omega arith, refl, refl)
is_right false_equal = (omega arith, refl, refl)
is_right (operation_of_one {to = to} p f) = (omega arith, refl, sym (ap (λ o. numeral to (whole_or_none o)) p))
is_right (operation_of_two {to = to} p f) = (omega arith, refl, sym (ap (λ o. numeral to (whole_or_none o)) p))
is_right (minus_of f) = (omega arith, refl, refl)
is_right compared = (omega arith, refl, refl)
is_right equal_numerals = (omega arith, refl, refl)
is_right empty_equal_cons = (omega arith, refl, refl)
is_right cons_equal_empty = (omega arith, refl, refl)
is_right cons_equal_cons = (omega arith, refl, refl)
is_right empty_concat = (omega arith, refl, refl)
is_right concat_empty = (omega arith, refl, refl)
is_right cons_concat = (omega arith, refl, refl)
is_right empty_snoc = (omega arith, refl, refl)
is_right cons_snoc = (omega arith, refl, refl)
is_right size_empty = (omega arith, refl, refl)
is_right size_cons = (omega arith, refl, refl)
is_right head_cons = (omega arith, refl, refl)
is_right tail_cons = (omega arith, refl, refl)
is_right rhead_one = (omega arith, refl, refl)
is_right rhead_more = (omega arith, refl, refl)
is_right rtail_one = (omega arith, refl, refl)
is_right rtail_more = (omega arith, refl, refl)
is_right at_zero = (omega arith, refl, refl)
is_right at_later = (omega arith, refl, refl)
is_right in_empty = (omega arith, refl, refl)
is_right in_cons = (omega arith, refl, refl)
is_right (different_constructors k p q n) = (omega arith, refl, refl)
is_right (same_constructor k p) = (omega arith, refl, refl)
is_right (projected {xs = xs} p) = (omega arith, refl, sym (ap (λ o. term_at xs (place_in_role o)) p))
is_right (recognised p) = (omega arith, refl, refl)
is_right (not_recognised p q n) = (omega arith, refl, refl)
is_right _ = tt

pub place_below : {g : Data} {c l r : Term} (b : BuiltIn g c l r) (k : ℕ) → place_of b ≡ Some k → k < lines
place_below {g} {c} {l} {r} b k e = (subst (λ o. IsRight g o c l r) e (is_right b)).0

pub condition_at : {g : Data} {c d l r s : Term} (a : BuiltIn g c l r) (b : BuiltIn g d l s) (k : ℕ) → place_of a ≡ Some k → place_of b ≡ Some k → c ≡ d
condition_at {g} {c} {d} {l} {r} {s} a b k e f = (subst (λ o. IsRight g o c l r) e (is_right a)).1 ∙ sym (subst (λ o. IsRight g o d l s) f (is_right b)).1

pub right_at : {g : Data} {c d l r s : Term} (a : BuiltIn g c l r) (b : BuiltIn g d l s) (k : ℕ) → place_of a ≡ Some k → place_of b ≡ Some k → r ≡ s
right_at {g} {c} {d} {l} {r} {s} a b k e f = (subst (λ o. IsRight g o c l r) e (is_right a)).2 ∙ sym (subst (λ o. IsRight g o d l s) f (is_right b)).2
