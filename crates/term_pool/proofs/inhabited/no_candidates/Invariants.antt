use Rattle.std.proofs.Common.{◌≡◌, ℕ, [], length}
use Rattle.term_pool.specs.Inhabited.{waiting_at}
use Rattle.term_pool.proofs.inhabited.no_candidates.Given as goal

abbrev pub invariant-loop : goal.invariant-loop
invariant-loop l =
    record {
      size : length l.waiting.items ≡ l.counter;
      none : (k : ℕ) → waiting_at l.waiting.items k ≡ [];
    }
