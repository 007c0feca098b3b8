use Rattle.std.proofs.Common.{◌<◌, ◌↔◌, IsTrue, take}
use Rattle.term_pool.specs.Weights.{number_of}
use Rattle.term_pool.proofs.DigitLemmas.{power}
use Rattle.term_pool.proofs.weight.are_less.Given as goal

abbrev pub invariant-loop-place : goal.invariant-loop-place
invariant-loop-place l =
    record {
      left_below : number_of (take l.place l.left) < power l.place;
      right_below : number_of (take l.place l.right) < power l.place;
      compared : IsTrue l.less ↔ (number_of (take l.place l.left) < number_of (take l.place l.right));
    }
