use Rattle.std.proofs.Common.{◌≡◌, ◌<◌, ◌≤◌, ℕ, [], length, get_or}
use Rattle.value_enum.specs.Levels.{values_at}
use Rattle.value_enum.proofs.enumerating.note_weights.Given as goal

abbrev pub invariant-loop-number : goal.invariant-loop-number
invariant-loop-number l =
    record {
      size : length l.heaviest.items ≡ length l.fn.heaviest.items;
      there : (k : ℕ) → k < l.number → ¬ (values_at l.levels.values.items l.weight (record { 0 = k }) ≡ []) → get_or l.heaviest.items k 0 ≡ l.weight;
      others : (k : ℕ) → k < l.number → values_at l.levels.values.items l.weight (record { 0 = k }) ≡ [] → get_or l.heaviest.items k 0 ≡ get_or l.fn.heaviest.items k 0;
      left : (k : ℕ) → l.number ≤ k → get_or l.heaviest.items k 0 ≡ get_or l.fn.heaviest.items k 0;
    }
