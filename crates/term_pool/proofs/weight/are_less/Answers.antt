use Rattle.std.proofs.Common.{◌≡◌, ℕ, ◌<◌, true, sym, ◌∙◌, arith}
use Rattle.std.proofs.lemmas.Bool.Decides.{nat_tests}
use Rattle.std.specs.Prelude.{nat_lt}
use Rattle.term_pool.proofs.DigitLemmas.{bound_place, differing_place, equal_place}
use Rattle.term_pool.proofs.weight.are_less.Goals as goal
use Rattle.term_pool.proofs.weight.are_less.Goals.{then-digit-other, else-digit-other}

test : (a b : ℕ) → nat_lt a b ≡ true → a < b
test a b t = grind (arith, nat_tests)

tested : (a b : ℕ) → a < b → nat_lt a b ≡ true
tested a b l = grind (arith, nat_tests)

pub loop-place-preserved : goal.loop-place-preserved
loop-place-preserved c =
    record {
      left_below = bound_place c.args.left.now c.loop-place.place c.loop-place.invariant.left_below (omega arith);
      right_below = bound_place c.args.right.now c.loop-place.place c.loop-place.invariant.right_below (omega arith);
      compared =
          let l = c.args.left.now in
          let r = c.args.right.now in
          let i = c.loop-place.place in
          let a = c.digit_at-digit.result in
          let b = c.digit_at-other.result in
          elim c.if-digit-other.branch [
            | then-digit-other w ↦ differing_place l r i a b c.if-digit-other.less c.digit_at-digit.ensures c.digit_at-other.ensures c.loop-place.invariant.left_below c.loop-place.invariant.right_below (λ t. test a b (sym w.less-is ∙ t), λ m. w.less-is ∙ tested a b m) w.if-digit-other.true
            | else-digit-other w ↦ equal_place l r i a b c.loop-place.less c.if-digit-other.less w.less-is c.digit_at-digit.ensures c.digit_at-other.ensures c.loop-place.invariant.compared w.if-digit-other.false
          ];
    }
