use Rattle.std.proofs.Common.{◌≡◌, ℕ, length, Some}
use Rattle.std.specs.Prelude.{slice_get}
use Rattle.term_pool.specs.declared.first_values.First.{First}
use Rattle.term_pool.proofs.first_values.no_entries.Given as goal

abbrev pub invariant-loop : goal.invariant-loop
invariant-loop l =
    record {
      count : length l.entries.items ≡ l.counter;
      none : (k : ℕ) (f : First) → slice_get l.entries.items k ≡ Some (Some f) → ⊥;
    }
