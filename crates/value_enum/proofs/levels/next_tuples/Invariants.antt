use Rattle.std.proofs.Common.{◌≡◌, ◌<◌, ℕ, length}
use Rattle.value_enum.specs.Shapes.{list_at}
use Rattle.value_enum.proofs.TupleRows.{IsEntry}
use Rattle.value_enum.proofs.levels.next_tuples.Given as goal

abbrev pub invariant-loop-place : goal.invariant-loop-place
invariant-loop-place l =
    record {
      size : length l.by_place.items ≡ l.place;
      each : (p : ℕ) → p < l.place → IsEntry l.arguments l.values l.tuples (length l.tuples) l.bound p (list_at l.by_place.items p);
    }
