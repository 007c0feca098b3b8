-- What the signs of functions say.
use Rattle.std.specs.Prelude.{◌≡◌, ◌≢◌, ℕ, List, [], ◌∷◌, get_or}
use Rattle.data_theory.specs.declared.ids.FunId.{FunId}
use Rattle.data_theory.specs.Terms as terms
use Rattle.data_theory.specs.Terms.{Sort, boolean, list, named, Operation, Symbol, Term, Terms, application, none, more, numeral}
use Rattle.data_theory.specs.Declarations as theory
use Rattle.data_theory.specs.Declarations.{Data, function_at, sort_at, constructor, projection, recogniser, structured}
use Rattle.data_theory.specs.Signature.{Sig}
use Rattle.data_theory.specs.IdData.{data_meant}
use Rattle.number_rules.specs.declared.num_op.NumOp.{NumOp}
use Rattle.number_rules.specs.declared.num_op.NumOp.TheVariants as operations
use Rattle.data_rewriter.specs.declared.signs.Comparison.{Comparison}
use Rattle.data_rewriter.specs.declared.signs.Comparison.TheVariants as signs
use Rattle.data_rewriter.specs.declared.signs.Equals.{Equals}
use Rattle.data_rewriter.specs.declared.signs.Equals.TheVariants as equals
use Rattle.data_rewriter.specs.declared.signs.Sign.{Sign}
use Rattle.data_rewriter.specs.declared.signs.Sign.TheVariants.{Other, True, False, Not, And, Or, Implies, Equal, Different, If, One, Two, Minus, Compare, Empty, Cons, Snoc, Concat, Size, At, Head, Tail, Rhead, Rtail, In, Constructor, Projection, Recogniser}
use Rattle.data_rewriter.specs.Standing.{IsSortOf, IsSymbolOf}

abbrev pub comparison_of : Comparison → terms.Comparison
comparison_of signs.Less = terms.less
comparison_of signs.AtMost = terms.at_most
comparison_of signs.Greater = terms.greater
comparison_of signs.AtLeast = terms.at_least

-- the operation on numbers that the code computes by this one
pub data ComputesBy : Operation → NumOp → Type 0 where
  by_add : ComputesBy terms.add operations.Add
  by_sub : ComputesBy terms.subtract operations.Sub
  by_mul : ComputesBy terms.multiply operations.Mul
  by_div : ComputesBy terms.divide operations.Div
  by_mod : ComputesBy terms.modulo operations.Mod
  by_exp : ComputesBy terms.power operations.Exp
  by_min : ComputesBy terms.minimum operations.Min
  by_max : ComputesBy terms.maximum operations.Max
  by_abs : ComputesBy terms.absolute operations.Abs
  by_succ : ComputesBy terms.successor operations.Succ
  by_pred : ComputesBy terms.predecessor operations.Pred
  by_to_pos : ComputesBy terms.to_positive operations.ToPos
  by_to_nat : ComputesBy terms.to_natural operations.ToNat

-- what the equality of a sort looks at
abbrev pub LooksAt : Sig → Equals → Sort → Type 0
LooksAt sig equals.Bool a = a ≡ boolean
LooksAt sig (equals.List e f) a = (b : Sort) × IsSortOf sig e b × (a ≡ list b) × IsSymbolOf sig f (terms.equality b)
LooksAt sig equals.Struct a = (d : ℕ) × (a ≡ named d) × (sort_at (data_meant sig) d ≡ structured)
LooksAt sig equals.Other a = (a ≢ boolean) × ((b : Sort) → a ≢ list b) × ((d : ℕ) → a ≡ named d → sort_at (data_meant sig) d ≡ structured → ⊥)

-- a declared function without constructors' business: at its root no built-in equation matches
abbrev pub HasNoRole : Sig → ℕ → Type 0
HasNoRole sig k = (function_at (data_meant sig) k).role ≡ theory.mapping

-- the symbol is none to which a built-in equation looks at its root or right under a root
abbrev pub IsOtherSymbol : Sig → Symbol → Type 0
IsOtherSymbol sig (terms.upcast a b) = Unit {0}
IsOtherSymbol sig (terms.function k) = HasNoRole sig k
IsOtherSymbol sig _ = ⊥

-- a symbol has this sign
abbrev pub HasSign : Sig → Symbol → Sign → Type 0
HasSign sig y Other = IsOtherSymbol sig y
HasSign sig y True = y ≡ terms.truth
HasSign sig y False = y ≡ terms.falsity
HasSign sig y Not = y ≡ terms.negation
HasSign sig y And = y ≡ terms.conjunction
HasSign sig y Or = y ≡ terms.disjunction
HasSign sig y Implies = y ≡ terms.implication
HasSign sig y (Equal s look) = (a : Sort) × IsSortOf sig s a × (y ≡ terms.equality a) × LooksAt sig look a
HasSign sig y (Different f) = (a : Sort) × (y ≡ terms.inequality a) × IsSymbolOf sig f (terms.equality a)
HasSign sig y If = (a : Sort) × (y ≡ terms.conditional a)
HasSign sig y (One op a to) = (o : Operation) × ComputesBy o op × (b : Sort) × IsSortOf sig a b × (d : Sort) × IsSortOf sig to d × (y ≡ terms.arithmetic o (b ∷ []) d)
HasSign sig y (Two op a b to) = (o : Operation) × ComputesBy o op × (p : Sort) × IsSortOf sig a p × (q : Sort) × IsSortOf sig b q × (d : Sort) × IsSortOf sig to d × (y ≡ terms.arithmetic o (p ∷ q ∷ []) d)
HasSign sig y (Minus s) = (a : Sort) × IsSortOf sig s a × (y ≡ terms.minus a)
HasSign sig y (Compare c s) = (a : Sort) × IsSortOf sig s a × (y ≡ terms.comparison (comparison_of c) a)
HasSign sig y (Empty s) = (a : Sort) × IsSortOf sig s a × (y ≡ terms.empty a)
HasSign sig y (Cons s) = (a : Sort) × IsSortOf sig s a × (y ≡ terms.cons a)
HasSign sig y (Snoc s f) = (a : Sort) × IsSortOf sig s a × (y ≡ terms.snoc a) × IsSymbolOf sig f (terms.cons a)
HasSign sig y (Concat s) = (a : Sort) × IsSortOf sig s a × (y ≡ terms.concatenation a)
HasSign sig y (Size s) = (a : Sort) × IsSortOf sig s a × (y ≡ terms.size a)
HasSign sig y (At s) = (a : Sort) × IsSortOf sig s a × (y ≡ terms.element_at a)
HasSign sig y (Head s) = (a : Sort) × IsSortOf sig s a × (y ≡ terms.head a)
HasSign sig y (Tail s) = (a : Sort) × IsSortOf sig s a × (y ≡ terms.tail a)
HasSign sig y (Rhead s) = (a : Sort) × IsSortOf sig s a × (y ≡ terms.rhead a)
HasSign sig y (Rtail s) = (a : Sort) × IsSortOf sig s a × (y ≡ terms.rtail a)
HasSign sig y (In s f) = (a : Sort) × IsSortOf sig s a × (y ≡ terms.membership a) × IsSymbolOf sig f (terms.equality a)
HasSign sig y Constructor = (k : ℕ) × (y ≡ terms.function k) × ((function_at (data_meant sig) k).role ≡ constructor)
HasSign sig y (Projection f i) = (k c : ℕ) × (y ≡ terms.function k) × IsSymbolOf sig f (terms.function c) × ((function_at (data_meant sig) k).role ≡ projection c i)
HasSign sig y (Recogniser f) = (k c : ℕ) × (y ≡ terms.function k) × IsSymbolOf sig f (terms.function c) × ((function_at (data_meant sig) k).role ≡ recogniser c)

-- the sign of a function; a number that isn't there means `true`
abbrev pub sign_at : List Sign → FunId → Sign
sign_at signs f = get_or signs f.0 True
