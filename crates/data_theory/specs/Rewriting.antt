-- The equations in the order in which rewriting tries them, and what a term goes to.
use Rattle.std.specs.Prelude.{◌≡◌, ◌≢◌, ℕ, suc, ◌+◌, ◌<◌, ◌⊎◌, List, [], length, Option, Some, None, slice_get, Contains, ℤ}
use Rattle.data_theory.specs.Terms.{Sort, boolean, Symbol, truth, conjunction, disjunction, implication, conditional, Term, Terms, variable, numeral, unknown, application, none, more, apply, put, variables_of}
use Rattle.data_theory.specs.Declarations.{Data, IsSort, Declares, HasSort, IsData}
use Rattle.data_theory.specs.Equations.{BuiltIn, trueᵗ, falseᵗ, not_true, not_false, not_not, true_and, and_true, false_and, and_false, and_same, true_or, or_true, false_or, or_false, or_same, true_implies, false_implies, implies, equal_itself, not_equal, if_true, if_false, if_same, equal_true, true_equal, equal_false, false_equal, operation_of_one, operation_of_two, minus_of, compared, equal_numerals, empty_equal_cons, cons_equal_empty, cons_equal_cons, empty_concat, concat_empty, cons_concat, empty_snoc, cons_snoc, size_empty, size_cons, head_cons, tail_cons, rhead_one, rhead_more, rtail_one, rtail_more, at_zero, at_later, in_empty, in_cons, different_constructors, same_constructor, projected, recognised, not_recognised}
use Rattle.data_theory.specs.Provable.{Equation, ProvablyEqual, ProvablyTrue, ProvablyFalse}
use Rattle.data_theory.specs.Environments.{IsOver}

-- the number of lines that rewriting uses; the written equations come behind them
abbrev pub lines : ℕ
lines = 55

-- the place of a line among them, from 0, in the order of the table; none for the lines marked (d)
abbrev pub place_of : {g : Data} {c l r : Term} → BuiltIn g c l r → Option ℕ
place_of not_true = Some 0
place_of not_false = Some 1
place_of not_not = Some 2
place_of true_and = Some 3
place_of and_true = Some 4
place_of false_and = Some 5
place_of and_false = Some 6
place_of and_same = Some 7
place_of true_or = Some 8
place_of or_true = Some 9
place_of false_or = Some 10
place_of or_false = Some 11
place_of or_same = Some 12
place_of true_implies = Some 13
place_of false_implies = Some 14
place_of implies = Some 15
place_of equal_itself = Some 16
place_of not_equal = Some 17
place_of if_true = Some 18
place_of if_false = Some 19
place_of if_same = Some 20
place_of equal_true = Some 21
place_of true_equal = Some 22
place_of equal_false = Some 23
place_of false_equal = Some 24
place_of (operation_of_one p f) = Some 25
place_of (operation_of_two p f) = Some 26
place_of (minus_of f) = Some 27
place_of compared = Some 28
place_of equal_numerals = Some 29
place_of empty_equal_cons = Some 30
place_of cons_equal_empty = Some 31
place_of cons_equal_cons = Some 32
place_of empty_concat = Some 33
place_of concat_empty = Some 34
place_of cons_concat = Some 35
place_of empty_snoc = Some 36
place_of cons_snoc = Some 37
place_of size_empty = Some 38
place_of size_cons = Some 39
place_of head_cons = Some 40
place_of tail_cons = Some 41
place_of rhead_one = Some 42
place_of rhead_more = Some 43
place_of rtail_one = Some 44
place_of rtail_more = Some 45
place_of at_zero = Some 46
place_of at_later = Some 47
place_of in_empty = Some 48
place_of in_cons = Some 49
place_of (different_constructors k p q n) = Some 50
place_of (same_constructor k p) = Some 51
place_of (projected p) = Some 52
place_of (recognised p) = Some 53
place_of (not_recognised p q n) = Some 54
place_of _ = None

-- the instance of a pattern by terms for its variables, where nothing merges
abbrev mutual
  pub laid : (ℕ → Term) → Term → Term
  laid e (variable v) = e v
  laid e (numeral a z) = numeral a z
  laid e (unknown d k) = unknown d k
  laid e (application f ts) = application f (laid_all e ts)

  pub laid_all : (ℕ → Term) → Terms → Terms
  laid_all e none = none
  laid_all e (more t ts) = more (laid e t) (laid_all e ts)

-- what the beginning of a written condition's rewriting counts: nothing where it is the term `true`
abbrev pub charge_of : Term → ℕ
charge_of (application truth none) = 0
charge_of _ = 1

-- Applies g own k t c r x: the equation k matches at the root of t, with this instance of its condition and of its right
-- side; to begin the condition counts x
pub data Applies (g : Data) (own : List Equation) : ℕ → Term → Term → Term → ℕ → Type 0 where
  a_line : {k : ℕ} {t c r : Term} (b : BuiltIn g c t r) → place_of b ≡ Some k → Applies g own k t c r 0
  an_equation : {k : ℕ} {t : Term} {q : Equation} (i : ℕ) (e : ℕ → Term) → slice_get own i ≡ Some q → k ≡ lines + i → laid e q.left ≡ t → Applies g own k t (put e q.condition) (put e q.right) (charge_of (put e q.condition))

-- the functions whose first argument may decide before the others are looked at
pub data LooksFirst : Symbol → Type 0 where
  if_looks : {s : Sort} → LooksFirst (conditional s)
  and_looks : LooksFirst conjunction
  or_looks : LooksFirst disjunction
  implies_looks : LooksFirst implication

abbrev pub IsTruthValue : Term → Type 0
IsTruthValue t = (t ≡ trueᵗ) ⊎ (t ≡ falseᵗ)

-- such a function, with a first argument that decides
abbrev pub FirstDecides : Symbol → Terms → Type 0
FirstDecides f none = ⊥
FirstDecides f (more t ts) = LooksFirst f × IsTruthValue t

mutual
  -- t goes to u in n uses
  pub data GoesTo (g : Data) (own : List Equation) : Term → Term → ℕ → Type 0 where
    a_variable : {v : ℕ} → GoesTo g own (variable v) (variable v) 0
    a_numeral : {a : Sort} {z : ℤ} → GoesTo g own (numeral a z) (numeral a z) 0
    an_unknown : {d k : ℕ} → GoesTo g own (unknown d k) (unknown d k) 0
    by_the_first : {f : Symbol} {t b u : Term} {ts : Terms} {n m : ℕ} → GoesTo g own t b n → FirstDecides f (more b ts) → RootGoesTo g own (application f (more b ts)) u m → GoesTo g own (application f (more t ts)) u (n + m)
    by_all : {f : Symbol} {ts us : Terms} {u : Term} {n m : ℕ} → ArgumentsGoTo g own ts us n → (FirstDecides f us → ⊥) → RootGoesTo g own (apply f us) u m → GoesTo g own (application f ts) u (n + m)

  -- place by place, with all uses
  pub data ArgumentsGoTo (g : Data) (own : List Equation) : Terms → Terms → ℕ → Type 0 where
    no_arguments : ArgumentsGoTo g own none none 0
    an_argument : {t u : Term} {ts us : Terms} {n m : ℕ} → GoesTo g own t u n → ArgumentsGoTo g own ts us m → ArgumentsGoTo g own (more t ts) (more u us) (n + m)

  -- the root goes on, after the arguments; what merged to a numeral goes to itself
  pub data RootGoesTo (g : Data) (own : List Equation) : Term → Term → ℕ → Type 0 where
    merged : {a : Sort} {z : ℤ} → RootGoesTo g own (numeral a z) (numeral a z) 0
    tries : {f : Symbol} {ts : Terms} {u : Term} {n : ℕ} → FromEquation g own 0 (application f ts) u n → RootGoesTo g own (application f ts) u n

  -- the root t goes on by the equations from the number k on
  pub data FromEquation (g : Data) (own : List Equation) : ℕ → Term → Term → ℕ → Type 0 where
    stays : {k : ℕ} {t : Term} → k ≡ lines + length own → FromEquation g own k t t 0
    passed : {k : ℕ} {t u : Term} {n : ℕ} → k < lines + length own → ((c r : Term) (x : ℕ) → Applies g own k t c r x → ⊥) → FromEquation g own (suc k) t u n → FromEquation g own k t u n
    refused : {k : ℕ} {t u c r d : Term} {x n m : ℕ} → k < lines + length own → Applies g own k t c r x → ConditionGoesTo g own c d n → d ≢ trueᵗ → FromEquation g own (suc k) t u m → FromEquation g own k t u (x + n + m)
    used : {k : ℕ} {t u c r d : Term} {x n m : ℕ} → k < lines + length own → Applies g own k t c r x → ConditionGoesTo g own c d n → d ≡ trueᵗ → GoesTo g own r u m → FromEquation g own k t u (suc (x + n + m))

  -- a condition goes to a term; the condition `true` needs no rewriting
  pub data ConditionGoesTo (g : Data) (own : List Equation) : Term → Term → ℕ → Type 0 where
    without_condition : {c : Term} → c ≡ trueᵗ → ConditionGoesTo g own c c 0
    with_condition : {c d : Term} {n : ℕ} → c ≢ trueᵗ → GoesTo g own c d n → ConditionGoesTo g own c d n

-- ---- unfinished rewritings
mutual
  -- a rewriting from t, finished or not, has n uses
  pub data Chain (g : Data) (own : List Equation) : Term → ℕ → Type 0 where
    not_begun : {t : Term} → Chain g own t 0
    in_arguments : {f : Symbol} {ts : Terms} {n : ℕ} → (LooksFirst f → ⊥) → ArgumentsChain g own ts n → Chain g own (application f ts) n
    in_the_first : {f : Symbol} {t : Term} {ts : Terms} {n : ℕ} → LooksFirst f → Chain g own t n → Chain g own (application f (more t ts)) n
    behind_the_first : {f : Symbol} {t b : Term} {ts : Terms} {n m : ℕ} → LooksFirst f → GoesTo g own t b n → (IsTruthValue b → ⊥) → ArgumentsChain g own ts m → Chain g own (application f (more t ts)) (n + m)
    at_the_root_by_the_first : {f : Symbol} {t b : Term} {ts : Terms} {n m : ℕ} → GoesTo g own t b n → FirstDecides f (more b ts) → EquationChain g own 0 (application f (more b ts)) m → Chain g own (application f (more t ts)) (n + m)
    at_the_root_by_all : {f h : Symbol} {ts us ws : Terms} {n m : ℕ} → ArgumentsGoTo g own ts us n → (FirstDecides f us → ⊥) → apply f us ≡ application h ws → EquationChain g own 0 (application h ws) m → Chain g own (application f ts) (n + m)

  -- the arguments in any order, each as far as it has come
  pub data ArgumentsChain (g : Data) (own : List Equation) : Terms → ℕ → Type 0 where
    no_arguments_left : ArgumentsChain g own none 0
    in_an_argument : {t : Term} {ts : Terms} {n m : ℕ} → Chain g own t n → ArgumentsChain g own ts m → ArgumentsChain g own (more t ts) (n + m)

  -- the root t as far as it has come by the equations from the number k on
  pub data EquationChain (g : Data) (own : List Equation) : ℕ → Term → ℕ → Type 0 where
    not_tried : {k : ℕ} {t : Term} → EquationChain g own k t 0
    is_passed : {k : ℕ} {t : Term} {n : ℕ} → ((c r : Term) (x : ℕ) → Applies g own k t c r x → ⊥) → EquationChain g own (suc k) t n → EquationChain g own k t n
    in_the_condition : {k : ℕ} {t c r : Term} {x n : ℕ} → Applies g own k t c r x → c ≢ trueᵗ → Chain g own c n → EquationChain g own k t (x + n)
    is_refused : {k : ℕ} {t c r d : Term} {x n m : ℕ} → Applies g own k t c r x → ConditionGoesTo g own c d n → d ≢ trueᵗ → EquationChain g own (suc k) t m → EquationChain g own k t (x + n + m)
    is_used : {k : ℕ} {t c r d : Term} {x n m : ℕ} → Applies g own k t c r x → ConditionGoesTo g own c d n → d ≡ trueᵗ → Chain g own r m → EquationChain g own k t (suc (x + n + m))

-- a chain of more than this many uses starts at t
abbrev pub ChainOfMoreThan : Data → List Equation → ℕ → Term → Type 0
ChainOfMoreThan g own fuel t = (n : ℕ) × (fuel < n) × Chain g own t n

-- ---- normal, and decided with fuel
abbrev pub IsNormal : Data → List Equation → Term → Type 0
IsNormal g own t = (n : ℕ) × GoesTo g own t t n

pub data Decision : Type 0 where
  yes_decided : Decision
  no_decided : Decision
  stuck : Decision
  spent : Decision

abbrev pub IsDecided : Data → List Equation → ℕ → Term → Decision → Type 0
IsDecided g own fuel t yes_decided = (n : ℕ) × GoesTo g own t trueᵗ n
IsDecided g own fuel t no_decided = (n : ℕ) × GoesTo g own t falseᵗ n
IsDecided g own fuel t stuck = (u : Term) × (n : ℕ) × GoesTo g own t u n × (u ≢ trueᵗ) × (u ≢ falseᵗ)
IsDecided g own fuel t spent = ChainOfMoreThan g own fuel t

-- ---- what the laws say
abbrev pub IsNoVariable : Term → Type 0
IsNoVariable (variable v) = ⊥
IsNoVariable _ = Unit {0}

-- a written equation whose condition and right side have no variable that its left side hasn't
pub record IsCovered (q : Equation) : Type 0 where
  pub condition : IsOver (variables_of q.left) q.condition
  pub right : IsOver (variables_of q.left) q.right

-- such an equation whose left side isn't a variable, and whose sides have one sort over its variables' sorts
pub record IsWellFormed (g : Data) (q : Equation) : Type 0 where
  pub covered : IsCovered q
  pub no_variable : IsNoVariable q.left
  pub sort : Sort
  pub condition : HasSort g q.sorts q.condition boolean
  pub left : HasSort g q.sorts q.left sort
  pub right : HasSort g q.sorts q.right sort

-- variables of sorts of the data
abbrev pub AreSorts : Data → List Sort → Type 0
AreSorts g vs = (v : ℕ) (s : Sort) → Declares vs v s → IsSort g s

-- closed terms of their sorts for all of these variables
abbrev pub Closes : Data → List Sort → (ℕ → Term) → Type 0
Closes g vs e = (v : ℕ) (s : Sort) → Declares vs v s → HasSort g [] (e v) s

abbrev pub GoesToOneTerm : Type 0
GoesToOneTerm =
    (g : Data) (own : List Equation) → ((q : Equation) → Contains own q → IsCovered q)
    → (t u v : Term) (n m : ℕ) → GoesTo g own t u n → GoesTo g own t v m → (u ≡ v) × (n ≡ m)

abbrev pub WhatItGoesToIsNormal : Type 0
WhatItGoesToIsNormal = (g : Data) (own : List Equation) (t u : Term) (n : ℕ) → GoesTo g own t u n → IsNormal g own u

abbrev pub FinishedRewritingsAreChains : Type 0
FinishedRewritingsAreChains = (g : Data) (own : List Equation) (t u : Term) (n : ℕ) → GoesTo g own t u n → Chain g own t n

abbrev pub GoesToAddsNoVariable : Type 0
GoesToAddsNoVariable =
    (g : Data) (own : List Equation) → ((q : Equation) → Contains own q → IsCovered q)
    → (xs : List ℕ) (t u : Term) (n : ℕ) → IsOver xs t → GoesTo g own t u n → IsOver xs u

abbrev pub GoesToKeepsTheSort : Type 0
GoesToKeepsTheSort =
    (g : Data) (own : List Equation) → IsData g → ((q : Equation) → Contains own q → IsWellFormed g q)
    → (vs : List Sort) → AreSorts g vs → (t u : Term) (n : ℕ) (s : Sort) → HasSort g vs t s → GoesTo g own t u n → HasSort g vs u s

abbrev pub GoesToIsProvablyEqual : Type 0
GoesToIsProvablyEqual =
    (g : Data) (own : List Equation) → IsData g → ((q : Equation) → Contains own q → IsWellFormed g q)
    → (vs : List Sort) → AreSorts g vs → (t u : Term) (n : ℕ) (s : Sort) → HasSort g vs t s → GoesTo g own t u n
    → (e : ℕ → Term) → Closes g vs e → ProvablyEqual g own (put e t) (put e u)

abbrev pub DecidedYesIsTrue : Type 0
DecidedYesIsTrue =
    (g : Data) (own : List Equation) → IsData g → ((q : Equation) → Contains own q → IsWellFormed g q)
    → (vs : List Sort) → AreSorts g vs → (fuel : ℕ) (t : Term) → HasSort g vs t boolean → IsDecided g own fuel t yes_decided
    → (e : ℕ → Term) → Closes g vs e → ProvablyTrue g own (put e t)

abbrev pub DecidedNoIsFalse : Type 0
DecidedNoIsFalse =
    (g : Data) (own : List Equation) → IsData g → ((q : Equation) → Contains own q → IsWellFormed g q)
    → (vs : List Sort) → AreSorts g vs → (fuel : ℕ) (t : Term) → HasSort g vs t boolean → IsDecided g own fuel t no_decided
    → (e : ℕ → Term) → Closes g vs e → ProvablyFalse g own (put e t)

abbrev pub UnmatchedRootsStay : Type 0
UnmatchedRootsStay =
    (g : Data) (own : List Equation) (t : Term) → ((k : ℕ) (c r : Term) (x : ℕ) → Applies g own k t c r x → ⊥)
    → FromEquation g own 0 t t 0
