-- Which functions look at their first argument first.
use Rattle.std.proofs.Common.{◌≡◌, refl, sym, subst}
use Rattle.data_theory.specs.Terms as terms
use Rattle.data_theory.specs.Terms.{Symbol}
use Rattle.data_theory.specs.Rewriting.{LooksFirst, if_looks, and_looks, or_looks, implies_looks}
use Rattle.data_theory.specs.Signature.{Sig}
use Rattle.data_rewriter.specs.declared.signs.Sign.{Sign}
use Rattle.data_rewriter.specs.declared.signs.Sign.TheVariants.{Other, True, False, Not, And, Or, Implies, Equal, Different, If, One, Two, Minus, Compare, Empty, Cons, Snoc, Concat, Size, At, Head, Tail, Rhead, Rtail, In, Constructor, Projection, Recogniser}
use Rattle.data_rewriter.specs.Signs.{HasSign}

-- the same as a test by cases
abbrev Looks : Symbol → Type 0
Looks (terms.conditional s) = Unit {0}
Looks terms.conjunction = Unit {0}
Looks terms.disjunction = Unit {0}
Looks terms.implication = Unit {0}
Looks _ = ⊥

looks : {y : Symbol} → LooksFirst y → Looks y
looks if_looks = tt
looks and_looks = tt
looks or_looks = tt
looks implies_looks = tt

module _ (sig : Sig) (y : Symbol) where
  pub if_looks_first : HasSign sig y If → LooksFirst y
  if_looks_first h = subst LooksFirst (sym h.1) if_looks

  pub and_looks_first : HasSign sig y And → LooksFirst y
  and_looks_first h = subst LooksFirst (sym h) and_looks

  pub or_looks_first : HasSign sig y Or → LooksFirst y
  or_looks_first h = subst LooksFirst (sym h) or_looks

  pub implies_looks_first : HasSign sig y Implies → LooksFirst y
  implies_looks_first h = subst LooksFirst (sym h) implies_looks

  looks_as : (z : Symbol) → y ≡ z → LooksFirst y → Looks z
  looks_as z e h = looks (subst LooksFirst e h)

pub not_looking : (sig : Sig) (y : Symbol) (s : Sign) → (s ≡ If → ⊥) → (s ≡ And → ⊥) → (s ≡ Or → ⊥) → (s ≡ Implies → ⊥) → HasSign sig y s → LooksFirst y → ⊥
not_looking sig y If a b c d h l = a refl
not_looking sig y And a b c d h l = b refl
not_looking sig y Or a b c d h l = c refl
not_looking sig y Implies a b c d h l = d refl
not_looking sig (terms.upcast p q) Other a b c d h l = looks l
not_looking sig (terms.function k) Other a b c d h l = looks l
not_looking sig terms.truth Other a b c d h l = h
not_looking sig terms.falsity Other a b c d h l = h
not_looking sig terms.negation Other a b c d h l = h
not_looking sig terms.conjunction Other a b c d h l = h
not_looking sig terms.disjunction Other a b c d h l = h
not_looking sig terms.implication Other a b c d h l = h
not_looking sig (terms.equality p) Other a b c d h l = h
not_looking sig (terms.inequality p) Other a b c d h l = h
not_looking sig (terms.conditional p) Other a b c d h l = h
not_looking sig (terms.comparison p q) Other a b c d h l = h
not_looking sig (terms.arithmetic p q s) Other a b c d h l = h
not_looking sig (terms.minus p) Other a b c d h l = h
not_looking sig (terms.empty p) Other a b c d h l = h
not_looking sig (terms.cons p) Other a b c d h l = h
not_looking sig (terms.snoc p) Other a b c d h l = h
not_looking sig (terms.concatenation p) Other a b c d h l = h
not_looking sig (terms.size p) Other a b c d h l = h
not_looking sig (terms.element_at p) Other a b c d h l = h
not_looking sig (terms.head p) Other a b c d h l = h
not_looking sig (terms.rhead p) Other a b c d h l = h
not_looking sig (terms.tail p) Other a b c d h l = h
not_looking sig (terms.rtail p) Other a b c d h l = h
not_looking sig (terms.membership p) Other a b c d h l = h
not_looking sig y True a b c d h l = looks_as sig y _ h l
not_looking sig y False a b c d h l = looks_as sig y _ h l
not_looking sig y Not a b c d h l = looks_as sig y _ h l
not_looking sig y (Equal _ _) a b c d h l = looks_as sig y _ h.2 l
not_looking sig y (Different _) a b c d h l = looks_as sig y _ h.1 l
not_looking sig y (One _ _ _) a b c d h l = looks_as sig y _ h.6 l
not_looking sig y (Two _ _ _ _) a b c d h l = looks_as sig y _ h.8 l
not_looking sig y (Minus _) a b c d h l = looks_as sig y _ h.2 l
not_looking sig y (Compare _ _) a b c d h l = looks_as sig y _ h.2 l
not_looking sig y (Empty _) a b c d h l = looks_as sig y _ h.2 l
not_looking sig y (Cons _) a b c d h l = looks_as sig y _ h.2 l
not_looking sig y (Snoc _ _) a b c d h l = looks_as sig y _ h.2 l
not_looking sig y (Concat _) a b c d h l = looks_as sig y _ h.2 l
not_looking sig y (Size _) a b c d h l = looks_as sig y _ h.2 l
not_looking sig y (At _) a b c d h l = looks_as sig y _ h.2 l
not_looking sig y (Head _) a b c d h l = looks_as sig y _ h.2 l
not_looking sig y (Tail _) a b c d h l = looks_as sig y _ h.2 l
not_looking sig y (Rhead _) a b c d h l = looks_as sig y _ h.2 l
not_looking sig y (Rtail _) a b c d h l = looks_as sig y _ h.2 l
not_looking sig y (In _ _) a b c d h l = looks_as sig y _ h.2 l
not_looking sig y Constructor a b c d h l = looks_as sig y _ h.1 l
not_looking sig y (Projection _ _) a b c d h l = looks_as sig y _ h.2 l
not_looking sig y (Recogniser _) a b c d h l = looks_as sig y _ h.2 l
