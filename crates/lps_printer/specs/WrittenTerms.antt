-- The expression that is printed for a term.
use Rattle.std.specs.Prelude.{ℕ, zero, suc, Bool, cond, List, [], ◌∷◌, Option, Some, None, codes, ℤ, pos, negsuc}
use Rattle.mcrl2_syntax.specs.declared.data_tree.PrefixSign.{PrefixSign}
use Rattle.mcrl2_syntax.specs.declared.data_tree.PrefixSign.TheVariants.{Not, Negate, Size}
use Rattle.mcrl2_syntax.specs.declared.data_tree.InfixSign.{InfixSign}
use Rattle.mcrl2_syntax.specs.declared.data_tree.InfixSign.TheVariants.{Implies, Or, And, Equal, NotEqual, Less, LessEqual, Greater, GreaterEqual, In, Prepend, Append, Concat, Add, Subtract, Div, Mod, Multiply, At}
use Rattle.data_theory.specs.Terms.{Sort, boolean, positive, natural, integer, list, named as declared_sort, Comparison, less, at_most, greater, at_least, Operation, add, subtract, multiply, divide, modulo, power, minimum, maximum, absolute, successor, predecessor, to_positive, to_natural, Symbol, truth, falsity, negation, conjunction, disjunction, implication, equality, inequality, conditional, comparison, arithmetic, minus, upcast, empty, cons, snoc, concatenation, size, element_at, head, rhead, tail, rtail, membership, function, Term, Terms, variable, unknown, application}
use Rattle.data_theory.specs.Terms as term_
use Rattle.lps_printer.specs.PrintedExpressions.{Expression, Expressions, named, numeral, true_, false_, listed, applied, prefix, binary, none, more}

-- the names of variables and declared functions, and which functions have a name of their own that isn't built in
pub record Names : Type 0 where
  pub variable : ℕ → List ℕ
  pub function : ℕ → List ℕ
  pub once : ℕ → Bool

-- how a symbol is written with its arguments
pub data Shape : Type 0 where
  constant_true : Shape
  constant_false : Shape
  before : PrefixSign → Shape
  between : InfixSign → Shape
  called : List ℕ → Shape

abbrev pub comparison_sign : Comparison → InfixSign
comparison_sign less = Less
comparison_sign at_most = LessEqual
comparison_sign greater = Greater
comparison_sign at_least = GreaterEqual

abbrev pub operation_shape : Operation → List Sort → Sort → Shape
operation_shape add ss to = between Add
operation_shape subtract ss to = between Subtract
operation_shape multiply ss to = between Multiply
operation_shape divide ss to = between Div
operation_shape modulo ss to = between Mod
operation_shape power ss to = called (codes "exp")
operation_shape minimum ss to = called (codes "min")
operation_shape maximum ss to = called (codes "max")
operation_shape absolute ss to = called (codes "abs")
operation_shape successor ss to = called (codes "succ")
operation_shape predecessor ss to = called (codes "pred")
operation_shape to_positive (natural ∷ ss) to = called (codes "Nat2Pos")
operation_shape to_positive _ to = called (codes "Int2Pos")
operation_shape to_natural ss to = called (codes "Int2Nat")

abbrev pub upcast_name : Sort → Sort → List ℕ
upcast_name positive natural = codes "Pos2Nat"
upcast_name positive _ = codes "Pos2Int"
upcast_name _ to = codes "Nat2Int"

abbrev pub shape : Names → Symbol → Shape
shape n truth = constant_true
shape n falsity = constant_false
shape n negation = before Not
shape n conjunction = between And
shape n disjunction = between Or
shape n implication = between Implies
shape n (equality s) = between Equal
shape n (inequality s) = between NotEqual
shape n (conditional s) = called (codes "if")
shape n (comparison c s) = between (comparison_sign c)
shape n (arithmetic op ss to) = operation_shape op ss to
shape n (minus s) = before Negate
shape n (upcast s to) = called (upcast_name s to)
shape n (empty s) = called (codes "[]")
shape n (cons s) = between Prepend
shape n (snoc s) = between Append
shape n (concatenation s) = between Concat
shape n (size s) = before Size
shape n (element_at s) = between At
shape n (head s) = called (codes "head")
shape n (rhead s) = called (codes "rhead")
shape n (tail s) = called (codes "tail")
shape n (rtail s) = called (codes "rtail")
shape n (membership s) = between In
shape n (function k) = called (n.function k)

abbrev pub call : List ℕ → Expressions → Expression
call x none = named x
call x (more e es) = applied x (more e es)

-- how the arguments of a symbol are told apart: those of `[]`, of `|>`, of an upcast, of a declared function and of any other one
pub data Manner : Type 0 where
  no_elements : Sort → Manner
  an_element : Manner
  a_cast : Manner
  declared : ℕ → Manner
  built_in : Manner

abbrev pub manner : Symbol → Manner
manner truth = built_in
manner falsity = built_in
manner negation = built_in
manner conjunction = built_in
manner disjunction = built_in
manner implication = built_in
manner (equality s) = built_in
manner (inequality s) = built_in
manner (conditional s) = built_in
manner (comparison c s) = built_in
manner (arithmetic op ss to) = built_in
manner (minus s) = built_in
manner (upcast s to) = a_cast
manner (empty s) = no_elements s
manner (cons s) = an_element
manner (snoc s) = built_in
manner (concatenation s) = built_in
manner (size s) = built_in
manner (element_at s) = built_in
manner (head s) = built_in
manner (rhead s) = built_in
manner (tail s) = built_in
manner (rtail s) = built_in
manner (membership s) = built_in
manner (function k) = declared k

-- `true` stands for a sign that hasn't its number of operands
abbrev pub build : Shape → Expressions → Expression
build constant_true es = true_
build constant_false es = false_
build (before sign) (more e none) = prefix sign e
build (before sign) es = true_
build (between sign) (more e (more f none)) = binary sign e f
build (between sign) es = true_
build (called x) es = call x es

abbrev pub open_numeral : Sort → ℤ → Expression
open_numeral natural (pos zero) = numeral 0
open_numeral natural (pos (suc n)) = applied (codes "Pos2Nat") (more (numeral (suc n)) none)
open_numeral integer (pos zero) = applied (codes "Nat2Int") (more (numeral 0) none)
open_numeral integer (pos (suc n)) = applied (codes "Pos2Int") (more (numeral (suc n)) none)
open_numeral _ (pos n) = numeral n
open_numeral _ (negsuc n) = prefix Negate (numeral (suc n))

abbrev pub placed_numeral : ℤ → Expression
placed_numeral (pos n) = numeral n
placed_numeral (negsuc n) = prefix Negate (numeral (suc n))

-- A term in an open place and in a place of declared sort; the elements of a chain of `|>` that ends in `[]`; and the name of a variable.
pub record Written : Type 0 where
  pub opened : Expression
  pub placed : Expression
  pub chain : Option Expressions
  pub name : Option (List ℕ)

abbrev pub in_both : Expression → Written
in_both e = record { opened = e; placed = e; chain = None; name = None }

abbrev pub opens : List Written → Expressions
opens [] = none
opens (w ∷ ws) = more w.opened (opens ws)

abbrev pub places : List Written → Expressions
places [] = none
places (w ∷ ws) = more w.placed (places ws)

abbrev pub elements_written : Option Expressions → Written → Written → Written
elements_written None w v = in_both (binary Prepend w.opened v.opened)
elements_written (Some es) w v = record { opened = listed (more w.opened es); placed = listed (more w.opened es); chain = Some (more w.opened es); name = None }

-- the name of a variable stands for its upcast in a place of declared sort
abbrev pub cast_written : Option (List ℕ) → Expression → Written
cast_written None e = in_both e
cast_written (Some x) e = record { opened = e; placed = named x; chain = None; name = None }

abbrev pub written_in : Names → Manner → Shape → List Written → Written
written_in n (no_elements s) x ws = record { opened = listed none; placed = listed none; chain = Some none; name = None }
written_in n an_element x (w ∷ v ∷ []) = elements_written v.chain w v
written_in n an_element x ws = in_both (build x (opens ws))
written_in n a_cast x (w ∷ []) = cast_written w.name (build x (more w.opened none))
written_in n a_cast x ws = in_both (build x (opens ws))
written_in n (declared k) x ws = in_both (call (n.function k) (cond (n.once k) (places ws) (opens ws)))
written_in n built_in x ws = in_both (build x (opens ws))

abbrev pub written_with : Names → Symbol → List Written → Written
written_with n f ws = written_in n (manner f) (shape n f) ws

abbrev mutual
  pub written : Names → Term → Written
  written n (variable v) = record { opened = named (n.variable v); placed = named (n.variable v); chain = None; name = Some (n.variable v) }
  written n (term_.numeral s z) = record { opened = open_numeral s z; placed = placed_numeral z; chain = None; name = None }
  written n (unknown d k) = in_both true_
  written n (application f ts) = written_with n f (written_all n ts)

  pub written_all : Names → Terms → List Written
  written_all n term_.none = []
  written_all n (term_.more t ts) = written n t ∷ written_all n ts
