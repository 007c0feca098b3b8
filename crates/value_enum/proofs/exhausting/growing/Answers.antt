use Rattle.std.proofs.Common.{◌≡◌, ◌<◌, ◌+◌, ◌∙◌, ◌⊎◌, ⊎_elim, ℕ, true, false, get_or, sym, subst, arith}
use Rattle.value_enum.specs.Levels.{HasNoHeavier}
use Rattle.value_enum.proofs.exhausting.growing.Goals as goal

before_or_last : (k n : ℕ) → k < n + 1 → (k < n) ⊎ (k ≡ n)
before_or_last k n l = grind arith

pub loop-number-init : goal.loop-number-init
loop-number-init c = λ k l. absurd (omega (arith, l))

pub loop-number-preserved-then-unbounded-number : goal.loop-number-preserved-then-unbounded-number
loop-number-preserved-then-unbounded-number c =
    λ k l e. ⊎_elim
    (λ less. c.loop-number.invariant k less e)
    (λ last. absurd (let read : get_or c.args.unbounded.now c.loop-number.number false ≡ false = subst (λ n. get_or c.args.unbounded.now n false ≡ false) last e in let wrong : true ≡ false = sym c.if-unbounded-number.true ∙ read in cc))
    (before_or_last k c.loop-number.number l)

pub loop-number-preserved : goal.loop-number-preserved
loop-number-preserved c =
    λ k l e. ⊎_elim
    (λ less. c.loop-number.invariant k less e)
    (λ last. subst (HasNoHeavier c.args.shapes.now c.args.heaviest.now c.args.unbounded.now c.args.weight) (sym last) (c.grows.ensures.none c.if-grows.false))
    (before_or_last k c.loop-number.number l)

pub returns-then-grows : goal.returns-then-grows
returns-then-grows c = (c.loop-number-test.true, c.if-unbounded-number.false, c.grows.ensures.heavier c.if-grows.true)

pub returns : goal.returns
returns c = λ k l e. c.loop-number.invariant k (omega (arith, l, c.loop-number-test.false)) e
