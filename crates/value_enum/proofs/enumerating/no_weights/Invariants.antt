use Rattle.std.proofs.Common.{◌≡◌, ℕ, length, get_or}
use Rattle.value_enum.proofs.enumerating.no_weights.Given as goal

abbrev pub invariant-loop : goal.invariant-loop
invariant-loop l =
    record {
      count : length l.weights.items ≡ l.counter;
      none : (k : ℕ) → get_or l.weights.items k 0 ≡ 0;
    }
