use Rattle.std.proofs.Common.{◌≡◌, ◌+◌, ◌*◌, ◌≤◌, take, length}
use Rattle.term_pool.specs.Weights.{number_of}
use Rattle.term_pool.proofs.DigitLemmas.{power}
use Rattle.term_pool.proofs.weight.digits_of_sum.Given as goal

abbrev pub invariant-loop-place : goal.invariant-loop-place
invariant-loop-place l =
    record {
      small : l.carry ≤ 1;
      count : length l.digits.items ≡ l.place;
      sum : number_of l.digits.items + l.carry * power l.place ≡ number_of (take l.place l.left) + number_of (take l.place l.right);
    }
