use Rattle.std.proofs.Common.{◌≡◌, ◌+◌, ◌<◌, ℕ, take, length}
use Rattle.std.specs.List.{Contains}
use Rattle.term_pool.specs.Pools.{Extends}
use Rattle.value_enum.specs.Values.{AreTermsOf}
use Rattle.value_enum.specs.Shapes.{list_at}
use Rattle.value_enum.specs.Levels.{shape_of, values_weighing}
use Rattle.value_enum.proofs.levels.next_values.Given as goal

abbrev pub invariant-loop-number : goal.invariant-loop-number
invariant-loop-number l =
    record {
      kept : Extends l.fn.pool.trees l.pool.trees;
      constants : l.pool.constants ≡ l.fn.pool.constants;
      size : length l.by_sort.items ≡ l.number;
      there : (k : ℕ) → k < l.number → Contains l.shapes.sorts.keys (record { 0 = k }) → AreTermsOf l.pool.trees (list_at l.by_sort.items k) (take (l.bound + 1) (values_weighing (shape_of l.sig l.shapes) (record { 0 = k }) (length l.tuples)));
    }
