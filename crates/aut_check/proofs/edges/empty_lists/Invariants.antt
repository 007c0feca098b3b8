use Rattle.std.proofs.Common.{◌≡◌, ℕ, [], length}
use Rattle.aut_check.specs.Comparing.{numbers_at}
use Rattle.aut_check.proofs.edges.empty_lists.Given as goal

abbrev pub invariant-loop : goal.invariant-loop
invariant-loop l = (length l.lists.items ≡ l.counter) × ((i : ℕ) → numbers_at l.lists.items i ≡ [])
