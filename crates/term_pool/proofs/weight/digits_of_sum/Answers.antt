use Rattle.std.proofs.Common.{arith}
use Rattle.term_pool.proofs.DigitLemmas.{sum_place, sum_end, sum_end_without}
use Rattle.term_pool.proofs.weight.digits_of_sum.Goals as goal
use Rattle.term_pool.proofs.weight.digits_of_sum.Goals.{then-carry-gt0+in_ok-push-2, else-carry-gt0}

pub loop-place-preserved : goal.loop-place-preserved
loop-place-preserved c =
    record {
      small = omega arith;
      count = omega (arith, c.in_ok-push.ensures.len);
      sum = rw c.in_ok-push.ensures.items (sum_place c.args.left.now c.args.right.now c.loop-place.digits.items c.loop-place.place c.loop-place.carry _ c.loop-place.invariant.count c.loop-place.invariant.sum (omega arith));
    }

pub returns : goal.returns
returns c =
    let l = c.args.left.now in
    let r = c.args.right.now in
    let i = c.loop-place.place in
    let k = c.loop-place.invariant in
    elim c.if-carry-gt0.branch [
      | then-carry-gt0+in_ok-push-2 w ↦ rw (w.digits-is, w.in_ok-push-2.ensures.items) (sum_end l r c.loop-place.digits.items i c.loop-place.carry k.count k.sum (omega arith) (omega arith))
      | else-carry-gt0 w ↦ rw w.digits-is (sum_end_without l r c.loop-place.digits.items i c.loop-place.carry (omega arith) k.sum (omega arith) (omega arith))
    ]
