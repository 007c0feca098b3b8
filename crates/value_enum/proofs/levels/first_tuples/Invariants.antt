use Rattle.std.proofs.Common.{◌≡◌, ◌<◌, ℕ, length}
use Rattle.value_enum.specs.Shapes.{list_at}
use Rattle.value_enum.proofs.TupleRows.{IsFirstEntry}
use Rattle.value_enum.proofs.levels.first_tuples.Given as goal

abbrev pub invariant-loop-argument : goal.invariant-loop-argument
invariant-loop-argument l =
    record {
      size : length l.by_place.items ≡ l.argument-index;
      each : (p : ℕ) → p < l.argument-index → IsFirstEntry l.arguments p (list_at l.by_place.items p);
    }
