-- How many arguments the left sides of the built-in equations have.
use Rattle.std.proofs.Common.{◌≡◌, get_or, ℕ, suc, ◌<◌, List, [], ◌∷◌, length, refl, sym, ap, ◌∙◌, subst, arith}
use Rattle.data_theory.specs.declared.ids.TermId.{TermId}
use Rattle.data_theory.specs.Terms as terms
use Rattle.data_theory.specs.Terms.{Sort, Symbol, Term, Terms, variable, numeral, unknown, application, none, more}
use Rattle.data_theory.specs.Declarations.{Data, function_at, projection, recogniser}
use Rattle.data_theory.specs.Equations.{BuiltIn, not_true, not_false, not_not, true_and, and_true, false_and, and_false, and_same, true_or, or_true, false_or, or_false, or_same, true_implies, false_implies, implies, and_commutes, or_commutes, and_associates, or_associates, and_distributes, or_distributes, and_absorbs, or_absorbs, not_and, not_or, and_not, or_not, equal_itself, not_equal, if_true, if_false, if_same, equal_commutes, equal_true, true_equal, equal_false, false_equal, operation_of_one, operation_of_two, minus_of, compared, equal_numerals, empty_equal_cons, cons_equal_empty, cons_equal_cons, empty_concat, concat_empty, cons_concat, empty_snoc, cons_snoc, size_empty, size_cons, head_cons, tail_cons, rhead_one, rhead_more, rtail_one, rtail_more, at_zero, at_later, in_empty, in_cons, different_constructors, same_constructor, projected, recognised, not_recognised}
use Rattle.data_theory.specs.Signature.{Sig}
use Rattle.data_theory.specs.IdData.{data_meant}
use Rattle.data_theory.specs.IdTrees.{Tree}
use Rattle.data_theory.specs.declared.ids.SortId.{SortId}
use Rattle.data_theory.specs.declared.ids.FunId.{FunId}
use Rattle.number_rules.specs.declared.num_op.NumOp.{NumOp}
use Rattle.data_rewriter.specs.declared.signs.Comparison.{Comparison}
use Rattle.data_rewriter.specs.declared.signs.Equals.{Equals}
use Rattle.data_rewriter.specs.declared.signs.Sign.{Sign}
use Rattle.data_rewriter.specs.declared.signs.Sign.TheVariants.{Other, True, False, Not, And, Or, Implies, Equal, Different, If, One, Two, Minus, Compare, Empty, Cons, Snoc, Concat, Size, At, Head, Tail, Rhead, Rtail, In, Constructor, Projection, Recogniser}
use Rattle.data_theory.specs.IdTerms.{term_under}
use Rattle.std.specs.Prelude.{Option}
use Rattle.std.specs.List.{All}
use Rattle.std.proofs.lemmas.List.Elements.{All-head, All-tail}
use Rattle.term_pool.specs.declared.terms.Head.{Head as RootHead}
use Rattle.term_pool.specs.declared.terms.Head.TheVariants.{Var, Num as Number, Fun}
use Rattle.term_pool.specs.HeadTrees.{written_tree, tree_at}
use Rattle.data_rewriter.specs.declared.rights.Line.{Line}
use Rattle.data_rewriter.specs.FirstLines.{LineAt, IsFirstLine}
use Rattle.data_rewriter.specs.Standing.{IsTerm, term_at, listed_at, terms_of}
use Rattle.data_rewriter.specs.Signs.{HasSign}

-- how many arguments the root of a left side with this symbol has; 9 for the symbols that no left side has at its root
abbrev pub arity : Symbol → ℕ
arity terms.negation = 1
arity terms.conjunction = 2
arity terms.disjunction = 2
arity terms.implication = 2
arity (terms.equality s) = 2
arity (terms.inequality s) = 2
arity (terms.conditional s) = 3
arity (terms.comparison c s) = 2
arity (terms.arithmetic op ss to) = length ss
arity (terms.minus s) = 1
arity (terms.snoc s) = 2
arity (terms.concatenation s) = 2
arity (terms.size s) = 1
arity (terms.element_at s) = 2
arity (terms.head s) = 1
arity (terms.rhead s) = 1
arity (terms.tail s) = 1
arity (terms.rtail s) = 1
arity (terms.membership s) = 2
arity (terms.function k) = 1
arity _ = 9

abbrev pub count_of : Terms → ℕ
count_of none = 0
count_of (more t ts) = suc (count_of ts)

abbrev pub HasArity : Term → Type 0
HasArity (application f ts) = count_of ts ≡ arity f
HasArity _ = ⊥

has_arity : {g : Data} {c l r : Term} → BuiltIn g c l r → HasArity l
has_arity not_true = refl
has_arity not_false = refl
has_arity not_not = refl
has_arity true_and = refl
has_arity and_true = refl
has_arity false_and = refl
has_arity and_false = refl
has_arity and_same = refl
has_arity true_or = refl
has_arity or_true = refl
has_arity false_or = refl
has_arity or_false = refl
has_arity or_same = refl
has_arity true_implies = refl
has_arity false_implies = refl
has_arity implies = refl
has_arity and_commutes = refl
has_arity or_commutes = refl
has_arity and_associates = refl
has_arity or_associates = refl
has_arity and_distributes = refl
has_arity or_distributes = refl
has_arity and_absorbs = refl
has_arity or_absorbs = refl
has_arity not_and = refl
has_arity not_or = refl
has_arity and_not = refl
has_arity or_not = refl
has_arity equal_itself = refl
has_arity not_equal = refl
has_arity if_true = refl
has_arity if_false = refl
has_arity if_same = refl
has_arity equal_commutes = refl
has_arity equal_true = refl
has_arity true_equal = refl
has_arity equal_false = refl
has_arity false_equal = refl
has_arity (operation_of_one p f) = refl
has_arity (operation_of_two p f) = refl
has_arity (minus_of f) = refl
has_arity compared = refl
has_arity equal_numerals = refl
has_arity empty_equal_cons = refl
has_arity cons_equal_empty = refl
has_arity cons_equal_cons = refl
has_arity empty_concat = refl
has_arity concat_empty = refl
has_arity cons_concat = refl
has_arity empty_snoc = refl
has_arity cons_snoc = refl
has_arity size_empty = refl
has_arity size_cons = refl
has_arity head_cons = refl
has_arity tail_cons = refl
has_arity rhead_one = refl
has_arity rhead_more = refl
has_arity rtail_one = refl
has_arity rtail_more = refl
has_arity at_zero = refl
has_arity at_later = refl
has_arity in_empty = refl
has_arity in_cons = refl
has_arity (different_constructors k p q n) = refl
has_arity (same_constructor k p) = refl
has_arity (projected p) = refl
has_arity (recognised p) = refl
has_arity (not_recognised p q n) = refl

pub line_arity : {g : Data} {f : Symbol} {ts : Terms} {c r : Term} → BuiltIn g c (application f ts) r → count_of ts ≡ arity f
line_arity b = has_arity b

abbrev HasFew : Term → Type 0
HasFew (application f ts) = (0 < count_of ts) × (count_of ts < 4)
HasFew _ = ⊥

has_few : {g : Data} {c l r : Term} → BuiltIn g c l r → HasFew l
has_few not_true = (omega arith, omega arith)
has_few not_false = (omega arith, omega arith)
has_few not_not = (omega arith, omega arith)
has_few true_and = (omega arith, omega arith)
has_few and_true = (omega arith, omega arith)
has_few false_and = (omega arith, omega arith)
has_few and_false = (omega arith, omega arith)
has_few and_same = (omega arith, omega arith)
has_few true_or = (omega arith, omega arith)
has_few or_true = (omega arith, omega arith)
has_few false_or = (omega arith, omega arith)
has_few or_false = (omega arith, omega arith)
has_few or_same = (omega arith, omega arith)
has_few true_implies = (omega arith, omega arith)
has_few false_implies = (omega arith, omega arith)
has_few implies = (omega arith, omega arith)
has_few and_commutes = (omega arith, omega arith)
has_few or_commutes = (omega arith, omega arith)
has_few and_associates = (omega arith, omega arith)
has_few or_associates = (omega arith, omega arith)
has_few and_distributes = (omega arith, omega arith)
has_few or_distributes = (omega arith, omega arith)
has_few and_absorbs = (omega arith, omega arith)
has_few or_absorbs = (omega arith, omega arith)
has_few not_and = (omega arith, omega arith)
has_few not_or = (omega arith, omega arith)
has_few and_not = (omega arith, omega arith)
has_few or_not = (omega arith, omega arith)
has_few equal_itself = (omega arith, omega arith)
has_few not_equal = (omega arith, omega arith)
has_few if_true = (omega arith, omega arith)
has_few if_false = (omega arith, omega arith)
has_few if_same = (omega arith, omega arith)
has_few equal_commutes = (omega arith, omega arith)
has_few equal_true = (omega arith, omega arith)
has_few true_equal = (omega arith, omega arith)
has_few equal_false = (omega arith, omega arith)
has_few false_equal = (omega arith, omega arith)
has_few (operation_of_one p f) = (omega arith, omega arith)
has_few (operation_of_two p f) = (omega arith, omega arith)
has_few (minus_of f) = (omega arith, omega arith)
has_few compared = (omega arith, omega arith)
has_few equal_numerals = (omega arith, omega arith)
has_few empty_equal_cons = (omega arith, omega arith)
has_few cons_equal_empty = (omega arith, omega arith)
has_few cons_equal_cons = (omega arith, omega arith)
has_few empty_concat = (omega arith, omega arith)
has_few concat_empty = (omega arith, omega arith)
has_few cons_concat = (omega arith, omega arith)
has_few empty_snoc = (omega arith, omega arith)
has_few cons_snoc = (omega arith, omega arith)
has_few size_empty = (omega arith, omega arith)
has_few size_cons = (omega arith, omega arith)
has_few head_cons = (omega arith, omega arith)
has_few tail_cons = (omega arith, omega arith)
has_few rhead_one = (omega arith, omega arith)
has_few rhead_more = (omega arith, omega arith)
has_few rtail_one = (omega arith, omega arith)
has_few rtail_more = (omega arith, omega arith)
has_few at_zero = (omega arith, omega arith)
has_few at_later = (omega arith, omega arith)
has_few in_empty = (omega arith, omega arith)
has_few in_cons = (omega arith, omega arith)
has_few (different_constructors k p q n) = (omega arith, omega arith)
has_few (same_constructor k p) = (omega arith, omega arith)
has_few (projected p) = (omega arith, omega arith)
has_few (recognised p) = (omega arith, omega arith)
has_few (not_recognised p q n) = (omega arith, omega arith)

-- a left side has at least one argument, and at most three
pub line_few : {g : Data} {f : Symbol} {ts : Terms} {c r : Term} → BuiltIn g c (application f ts) r → (0 < count_of ts) × (count_of ts < 4)
line_few b = has_few b

-- no variable and no numeral has an equation at its root
pub atom_has_no_line : {g : Data} {c l r : Term} → BuiltIn g c l r → HasArity l
atom_has_no_line b = has_arity b

-- a function that is no projection and no recogniser has no equation at its root
pub no_role_no_line : {g : Data} {k : ℕ} {ts : Terms} {c r : Term} → ((d i : ℕ) → (function_at g k).role ≡ projection d i → ⊥) → ((d : ℕ) → (function_at g k).role ≡ recogniser d → ⊥) → BuiltIn g c (application (terms.function k) ts) r → ⊥
no_role_no_line n m (projected {c = d} {i = i} p) = n d i p
no_role_no_line n m (recognised {c = d} p) = m d p
no_role_no_line n m (not_recognised {c = d} p q o) = m d p

pub count_listed : (sig : Sig) (ts : List Tree) (ids : List TermId) → count_of (terms_of (listed_at sig ts ids)) ≡ length ids
count_listed sig ts [] = refl
count_listed sig ts (id ∷ ids) = ap suc (count_listed sig ts ids)

-- ---- symbols whose equations have another number of arguments
abbrev pub Counts : Sign → ℕ
Counts Not = 1
Counts And = 2
Counts Or = 2
Counts Implies = 2
Counts (Equal s look) = 2
Counts (Different f) = 2
Counts If = 3
Counts (One op a to) = 1
Counts (Two op a b to) = 2
Counts (Minus s) = 1
Counts (Compare c s) = 2
Counts (Snoc s f) = 2
Counts (Concat s) = 2
Counts (Size s) = 1
Counts (At s) = 2
Counts (Head s) = 1
Counts (Tail s) = 1
Counts (Rhead s) = 1
Counts (Rtail s) = 1
Counts (In s f) = 2
Counts (Projection f i) = 1
Counts (Recogniser f) = 1
Counts _ = 0

module _ (sig : Sig) (ts : Terms) (c r : Term) where
  -- a line at a root has the number of arguments that the sign asks for
  at_symbol : (y z : Symbol) → y ≡ z → BuiltIn (data_meant sig) c (application y ts) r → count_of ts ≡ arity z
  at_symbol y z e b = line_arity b ∙ ap arity e

  pub counted : (y : Symbol) (sign : Sign) → HasSign sig y sign → BuiltIn (data_meant sig) c (application y ts) r → count_of ts < 9 → count_of ts ≡ Counts sign
  counted y Not h b l = at_symbol y terms.negation h b
  counted y And h b l = at_symbol y terms.conjunction h b
  counted y Or h b l = at_symbol y terms.disjunction h b
  counted y Implies h b l = at_symbol y terms.implication h b
  counted y (Equal s look) h b l = at_symbol y _ h.2 b
  counted y (Different f) h b l = at_symbol y _ h.1 b
  counted y If h b l = at_symbol y _ h.1 b
  counted y (One op a to) h b l = at_symbol y _ h.6 b
  counted y (Two op a x to) h b l = at_symbol y _ h.8 b
  counted y (Minus s) h b l = at_symbol y _ h.2 b
  counted y (Compare s a) h b l = at_symbol y _ h.2 b
  counted y (Snoc s f) h b l = at_symbol y _ h.2 b
  counted y (Concat s) h b l = at_symbol y _ h.2 b
  counted y (Size s) h b l = at_symbol y _ h.2 b
  counted y (At s) h b l = at_symbol y _ h.2 b
  counted y (Head s) h b l = at_symbol y _ h.2 b
  counted y (Tail s) h b l = at_symbol y _ h.2 b
  counted y (Rhead s) h b l = at_symbol y _ h.2 b
  counted y (Rtail s) h b l = at_symbol y _ h.2 b
  counted y (In s f) h b l = at_symbol y _ h.2 b
  counted y (Projection f i) h b l = at_symbol y _ h.2 b
  counted y (Recogniser f) h b l = at_symbol y _ h.2 b
  counted y True h b l = absurd (let n = at_symbol y terms.truth h b in omega (arith, n, l))
  counted y False h b l = absurd (let n = at_symbol y terms.falsity h b in omega (arith, n, l))
  counted y (Empty s) h b l = absurd (let n : count_of ts ≡ 9 = at_symbol y (terms.empty h.0) h.2 b in omega (arith, n, l))
  counted y (Cons s) h b l = absurd (let n : count_of ts ≡ 9 = at_symbol y (terms.cons h.0) h.2 b in omega (arith, n, l))
  counted y Constructor h b l = absurd (no_role_no_line (λ d i e. let a = sym h.2 ∙ e in cc) (λ d e. let a = sym h.2 ∙ e in cc) (subst (λ z. BuiltIn (data_meant sig) c (application z ts) r) h.1 b))
  counted (terms.upcast p q) Other h b l = absurd (let n : count_of ts ≡ 9 = line_arity b in omega (arith, n, l))
  counted (terms.function k) Other h b l = absurd (no_role_no_line (λ d i e. let a = sym h ∙ e in cc) (λ d e. let a = sym h ∙ e in cc) b)
  counted terms.truth Other h b l = absurd h
  counted terms.falsity Other h b l = absurd h
  counted terms.negation Other h b l = absurd h
  counted terms.conjunction Other h b l = absurd h
  counted terms.disjunction Other h b l = absurd h
  counted terms.implication Other h b l = absurd h
  counted (terms.equality p) Other h b l = absurd h
  counted (terms.inequality p) Other h b l = absurd h
  counted (terms.conditional p) Other h b l = absurd h
  counted (terms.comparison p q) Other h b l = absurd h
  counted (terms.arithmetic p q s) Other h b l = absurd h
  counted (terms.minus p) Other h b l = absurd h
  counted (terms.empty p) Other h b l = absurd h
  counted (terms.cons p) Other h b l = absurd h
  counted (terms.snoc p) Other h b l = absurd h
  counted (terms.concatenation p) Other h b l = absurd h
  counted (terms.size p) Other h b l = absurd h
  counted (terms.element_at p) Other h b l = absurd h
  counted (terms.head p) Other h b l = absurd h
  counted (terms.rhead p) Other h b l = absurd h
  counted (terms.tail p) Other h b l = absurd h
  counted (terms.rtail p) Other h b l = absurd h
  counted (terms.membership p) Other h b l = absurd h

-- ---- signs that ask for another number of arguments
pub not_one : (s : Sign) → (s ≡ Not → ⊥) → ((op : NumOp) (a b : SortId) → s ≡ One op a b → ⊥) → ((a : SortId) → s ≡ Minus a → ⊥) → ((a : SortId) → s ≡ Size a → ⊥) → ((a : SortId) → s ≡ Head a → ⊥) → ((a : SortId) → s ≡ Tail a → ⊥) → ((a : SortId) → s ≡ Rhead a → ⊥) → ((a : SortId) → s ≡ Rtail a → ⊥) → ((f : FunId) (i : ℕ) → s ≡ Projection f i → ⊥) → ((f : FunId) → s ≡ Recogniser f → ⊥) → 1 ≡ Counts s → ⊥
not_one Other n0 n1 n2 n3 n4 n5 n6 n7 n8 n9 e = absurd (omega (arith, e))
not_one True n0 n1 n2 n3 n4 n5 n6 n7 n8 n9 e = absurd (omega (arith, e))
not_one False n0 n1 n2 n3 n4 n5 n6 n7 n8 n9 e = absurd (omega (arith, e))
not_one Not n0 n1 n2 n3 n4 n5 n6 n7 n8 n9 e = n0 refl
not_one And n0 n1 n2 n3 n4 n5 n6 n7 n8 n9 e = absurd (omega (arith, e))
not_one Or n0 n1 n2 n3 n4 n5 n6 n7 n8 n9 e = absurd (omega (arith, e))
not_one Implies n0 n1 n2 n3 n4 n5 n6 n7 n8 n9 e = absurd (omega (arith, e))
not_one (Equal a l) n0 n1 n2 n3 n4 n5 n6 n7 n8 n9 e = absurd (omega (arith, e))
not_one (Different f) n0 n1 n2 n3 n4 n5 n6 n7 n8 n9 e = absurd (omega (arith, e))
not_one If n0 n1 n2 n3 n4 n5 n6 n7 n8 n9 e = absurd (omega (arith, e))
not_one (One op a b) n0 n1 n2 n3 n4 n5 n6 n7 n8 n9 e = n1 op a b refl
not_one (Two op a b d) n0 n1 n2 n3 n4 n5 n6 n7 n8 n9 e = absurd (omega (arith, e))
not_one (Minus a) n0 n1 n2 n3 n4 n5 n6 n7 n8 n9 e = n2 a refl
not_one (Compare c a) n0 n1 n2 n3 n4 n5 n6 n7 n8 n9 e = absurd (omega (arith, e))
not_one (Empty a) n0 n1 n2 n3 n4 n5 n6 n7 n8 n9 e = absurd (omega (arith, e))
not_one (Cons a) n0 n1 n2 n3 n4 n5 n6 n7 n8 n9 e = absurd (omega (arith, e))
not_one (Snoc a f) n0 n1 n2 n3 n4 n5 n6 n7 n8 n9 e = absurd (omega (arith, e))
not_one (Concat a) n0 n1 n2 n3 n4 n5 n6 n7 n8 n9 e = absurd (omega (arith, e))
not_one (Size a) n0 n1 n2 n3 n4 n5 n6 n7 n8 n9 e = n3 a refl
not_one (At a) n0 n1 n2 n3 n4 n5 n6 n7 n8 n9 e = absurd (omega (arith, e))
not_one (Head a) n0 n1 n2 n3 n4 n5 n6 n7 n8 n9 e = n4 a refl
not_one (Tail a) n0 n1 n2 n3 n4 n5 n6 n7 n8 n9 e = n5 a refl
not_one (Rhead a) n0 n1 n2 n3 n4 n5 n6 n7 n8 n9 e = n6 a refl
not_one (Rtail a) n0 n1 n2 n3 n4 n5 n6 n7 n8 n9 e = n7 a refl
not_one (In a f) n0 n1 n2 n3 n4 n5 n6 n7 n8 n9 e = absurd (omega (arith, e))
not_one Constructor n0 n1 n2 n3 n4 n5 n6 n7 n8 n9 e = absurd (omega (arith, e))
not_one (Projection f i) n0 n1 n2 n3 n4 n5 n6 n7 n8 n9 e = n8 f i refl
not_one (Recogniser f) n0 n1 n2 n3 n4 n5 n6 n7 n8 n9 e = n9 f refl

pub not_two : (s : Sign) → (s ≡ And → ⊥) → (s ≡ Or → ⊥) → (s ≡ Implies → ⊥) → ((a : SortId) (l : Equals) → s ≡ Equal a l → ⊥) → ((f : FunId) → s ≡ Different f → ⊥) → ((op : NumOp) (a b d : SortId) → s ≡ Two op a b d → ⊥) → ((c : Comparison) (a : SortId) → s ≡ Compare c a → ⊥) → ((a : SortId) (f : FunId) → s ≡ Snoc a f → ⊥) → ((a : SortId) → s ≡ Concat a → ⊥) → ((a : SortId) → s ≡ At a → ⊥) → ((a : SortId) (f : FunId) → s ≡ In a f → ⊥) → 2 ≡ Counts s → ⊥
not_two Other n0 n1 n2 n3 n4 n5 n6 n7 n8 n9 n10 e = absurd (omega (arith, e))
not_two True n0 n1 n2 n3 n4 n5 n6 n7 n8 n9 n10 e = absurd (omega (arith, e))
not_two False n0 n1 n2 n3 n4 n5 n6 n7 n8 n9 n10 e = absurd (omega (arith, e))
not_two Not n0 n1 n2 n3 n4 n5 n6 n7 n8 n9 n10 e = absurd (omega (arith, e))
not_two And n0 n1 n2 n3 n4 n5 n6 n7 n8 n9 n10 e = n0 refl
not_two Or n0 n1 n2 n3 n4 n5 n6 n7 n8 n9 n10 e = n1 refl
not_two Implies n0 n1 n2 n3 n4 n5 n6 n7 n8 n9 n10 e = n2 refl
not_two (Equal a l) n0 n1 n2 n3 n4 n5 n6 n7 n8 n9 n10 e = n3 a l refl
not_two (Different f) n0 n1 n2 n3 n4 n5 n6 n7 n8 n9 n10 e = n4 f refl
not_two If n0 n1 n2 n3 n4 n5 n6 n7 n8 n9 n10 e = absurd (omega (arith, e))
not_two (One op a b) n0 n1 n2 n3 n4 n5 n6 n7 n8 n9 n10 e = absurd (omega (arith, e))
not_two (Two op a b d) n0 n1 n2 n3 n4 n5 n6 n7 n8 n9 n10 e = n5 op a b d refl
not_two (Minus a) n0 n1 n2 n3 n4 n5 n6 n7 n8 n9 n10 e = absurd (omega (arith, e))
not_two (Compare c a) n0 n1 n2 n3 n4 n5 n6 n7 n8 n9 n10 e = n6 c a refl
not_two (Empty a) n0 n1 n2 n3 n4 n5 n6 n7 n8 n9 n10 e = absurd (omega (arith, e))
not_two (Cons a) n0 n1 n2 n3 n4 n5 n6 n7 n8 n9 n10 e = absurd (omega (arith, e))
not_two (Snoc a f) n0 n1 n2 n3 n4 n5 n6 n7 n8 n9 n10 e = n7 a f refl
not_two (Concat a) n0 n1 n2 n3 n4 n5 n6 n7 n8 n9 n10 e = n8 a refl
not_two (Size a) n0 n1 n2 n3 n4 n5 n6 n7 n8 n9 n10 e = absurd (omega (arith, e))
not_two (At a) n0 n1 n2 n3 n4 n5 n6 n7 n8 n9 n10 e = n9 a refl
not_two (Head a) n0 n1 n2 n3 n4 n5 n6 n7 n8 n9 n10 e = absurd (omega (arith, e))
not_two (Tail a) n0 n1 n2 n3 n4 n5 n6 n7 n8 n9 n10 e = absurd (omega (arith, e))
not_two (Rhead a) n0 n1 n2 n3 n4 n5 n6 n7 n8 n9 n10 e = absurd (omega (arith, e))
not_two (Rtail a) n0 n1 n2 n3 n4 n5 n6 n7 n8 n9 n10 e = absurd (omega (arith, e))
not_two (In a f) n0 n1 n2 n3 n4 n5 n6 n7 n8 n9 n10 e = n10 a f refl
not_two Constructor n0 n1 n2 n3 n4 n5 n6 n7 n8 n9 n10 e = absurd (omega (arith, e))
not_two (Projection f i) n0 n1 n2 n3 n4 n5 n6 n7 n8 n9 n10 e = absurd (omega (arith, e))
not_two (Recogniser f) n0 n1 n2 n3 n4 n5 n6 n7 n8 n9 n10 e = absurd (omega (arith, e))

pub not_three : (s : Sign) → (s ≡ If → ⊥) → 3 ≡ Counts s → ⊥
not_three Other n0 e = absurd (omega (arith, e))
not_three True n0 e = absurd (omega (arith, e))
not_three False n0 e = absurd (omega (arith, e))
not_three Not n0 e = absurd (omega (arith, e))
not_three And n0 e = absurd (omega (arith, e))
not_three Or n0 e = absurd (omega (arith, e))
not_three Implies n0 e = absurd (omega (arith, e))
not_three (Equal a l) n0 e = absurd (omega (arith, e))
not_three (Different f) n0 e = absurd (omega (arith, e))
not_three If n0 e = n0 refl
not_three (One op a b) n0 e = absurd (omega (arith, e))
not_three (Two op a b d) n0 e = absurd (omega (arith, e))
not_three (Minus a) n0 e = absurd (omega (arith, e))
not_three (Compare c a) n0 e = absurd (omega (arith, e))
not_three (Empty a) n0 e = absurd (omega (arith, e))
not_three (Cons a) n0 e = absurd (omega (arith, e))
not_three (Snoc a f) n0 e = absurd (omega (arith, e))
not_three (Concat a) n0 e = absurd (omega (arith, e))
not_three (Size a) n0 e = absurd (omega (arith, e))
not_three (At a) n0 e = absurd (omega (arith, e))
not_three (Head a) n0 e = absurd (omega (arith, e))
not_three (Tail a) n0 e = absurd (omega (arith, e))
not_three (Rhead a) n0 e = absurd (omega (arith, e))
not_three (Rtail a) n0 e = absurd (omega (arith, e))
not_three (In a f) n0 e = absurd (omega (arith, e))
not_three Constructor n0 e = absurd (omega (arith, e))
not_three (Projection f i) n0 e = absurd (omega (arith, e))
not_three (Recogniser f) n0 e = absurd (omega (arith, e))

pub too_many : (s : Sign) (n : ℕ) → (n ≡ 1 → ⊥) → (n ≡ 2 → ⊥) → (n ≡ 3 → ⊥) → 0 < n → n ≡ Counts s → ⊥
too_many Other n a b c l e = omega (arith, l, e)
too_many True n a b c l e = omega (arith, l, e)
too_many False n a b c l e = omega (arith, l, e)
too_many Not n a b c l e = a e
too_many And n a b c l e = b e
too_many Or n a b c l e = b e
too_many Implies n a b c l e = b e
too_many (Equal _ _) n a b c l e = b e
too_many (Different _) n a b c l e = b e
too_many If n a b c l e = c e
too_many (One _ _ _) n a b c l e = a e
too_many (Two _ _ _ _) n a b c l e = b e
too_many (Minus _) n a b c l e = a e
too_many (Compare _ _) n a b c l e = b e
too_many (Empty _) n a b c l e = omega (arith, l, e)
too_many (Cons _) n a b c l e = omega (arith, l, e)
too_many (Snoc _ _) n a b c l e = b e
too_many (Concat _) n a b c l e = b e
too_many (Size _) n a b c l e = a e
too_many (At _) n a b c l e = b e
too_many (Head _) n a b c l e = a e
too_many (Tail _) n a b c l e = a e
too_many (Rhead _) n a b c l e = a e
too_many (Rtail _) n a b c l e = a e
too_many (In _ _) n a b c l e = b e
too_many Constructor n a b c l e = omega (arith, l, e)
too_many (Projection _ _) n a b c l e = a e
too_many (Recogniser _) n a b c l e = a e

-- ---- roots over one, two and three arguments
module _ (sig : Sig) (ts : List Tree) (y : Symbol) (o : Option Line) where
  pub at_one : (xs : List TermId) → length xs ≡ 1 → All (IsTerm sig ts) xs → (IsTerm sig ts (get_or xs 0 (record { 0 = 0 })) → IsFirstLine sig ts (application y (more (term_at sig ts (get_or xs 0 (record { 0 = 0 }))) none)) o) → IsFirstLine sig ts (application y (terms_of (listed_at sig ts xs))) o
  at_one [] e h f = absurd (omega (arith, e))
  at_one (a ∷ []) e h f = f (All-head (IsTerm sig ts) a [] h)
  at_one (a ∷ b ∷ xs) e h f = absurd (omega (arith, e))

  pub at_two : (xs : List TermId) → length xs ≡ 2 → All (IsTerm sig ts) xs → (IsTerm sig ts (get_or xs 0 (record { 0 = 0 })) → IsTerm sig ts (get_or xs 1 (record { 0 = 0 })) → IsFirstLine sig ts (application y (more (term_at sig ts (get_or xs 0 (record { 0 = 0 }))) (more (term_at sig ts (get_or xs 1 (record { 0 = 0 }))) none))) o) → IsFirstLine sig ts (application y (terms_of (listed_at sig ts xs))) o
  at_two [] e h f = absurd (omega (arith, e))
  at_two (a ∷ []) e h f = absurd (omega (arith, e))
  at_two (a ∷ b ∷ []) e h f = let r = All-tail (IsTerm sig ts) a (b ∷ []) h in f (All-head (IsTerm sig ts) a (b ∷ []) h) (All-head (IsTerm sig ts) b [] r)
  at_two (a ∷ b ∷ d ∷ xs) e h f = absurd (omega (arith, e))

  pub at_three : (xs : List TermId) → length xs ≡ 3 → All (IsTerm sig ts) xs → (IsTerm sig ts (get_or xs 0 (record { 0 = 0 })) → IsTerm sig ts (get_or xs 1 (record { 0 = 0 })) → IsTerm sig ts (get_or xs 2 (record { 0 = 0 })) → IsFirstLine sig ts (application y (more (term_at sig ts (get_or xs 0 (record { 0 = 0 }))) (more (term_at sig ts (get_or xs 1 (record { 0 = 0 }))) (more (term_at sig ts (get_or xs 2 (record { 0 = 0 }))) none)))) o) → IsFirstLine sig ts (application y (terms_of (listed_at sig ts xs))) o
  at_three [] e h f = absurd (omega (arith, e))
  at_three (a ∷ []) e h f = absurd (omega (arith, e))
  at_three (a ∷ b ∷ []) e h f = absurd (omega (arith, e))
  at_three (a ∷ b ∷ d ∷ []) e h f =
      let r = All-tail (IsTerm sig ts) a (b ∷ d ∷ []) h in
      let s = All-tail (IsTerm sig ts) b (d ∷ []) r in
      f (All-head (IsTerm sig ts) a (b ∷ d ∷ []) h) (All-head (IsTerm sig ts) b (d ∷ []) r) (All-head (IsTerm sig ts) d [] s)
  at_three (a ∷ b ∷ d ∷ z ∷ xs) e h f = absurd (omega (arith, e))

-- no equation at an atom, and none at a symbol over another number of arguments
pub at_atom : (sig : Sig) (ts : List Tree) (t : TermId) (h : RootHead) (us : List Tree) → ((f : FunId) → h ≡ Fun f → ⊥) → tree_at ts t ≡ written_tree h us → (i : ℕ) (c r : Term) → LineAt (data_meant sig) i (term_at sig ts t) c r → ⊥
at_atom sig ts t (Fun f) us n e i c r b = n f refl
at_atom sig ts t (Var v) us n e i c r b = subst HasArity (ap (term_under sig) e) (atom_has_no_line b.0)
at_atom sig ts t (Number s m) us n e i c r b = subst HasArity (ap (term_under sig) e) (atom_has_no_line b.0)

-- the symbols of equations have one, two or three arguments; those of a rule of numbers as many as its sorts
pub at_none : (sig : Sig) (ts : List Tree) (y : Symbol) (s : Sign) (xs : List TermId) → HasSign sig y s → (length xs ≡ 1 → ⊥) → (length xs ≡ 2 → ⊥) → (length xs ≡ 3 → ⊥) → (i : ℕ) (c r : Term) → LineAt (data_meant sig) i (application y (terms_of (listed_at sig ts xs))) c r → ⊥
at_none sig ts y s xs h p q t i c r b =
    let n = count_listed sig ts xs in
    let few = line_few b.0 in
    let most = few.1 in
    let least = few.0 in
    let same = counted sig (terms_of (listed_at sig ts xs)) c r y s h b.0 (omega (arith, most)) in
    too_many s (length xs) p q t (omega (arith, n, least)) (sym n ∙ same)
