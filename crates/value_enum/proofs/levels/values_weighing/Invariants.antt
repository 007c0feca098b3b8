use Rattle.std.proofs.Common.{◌≡◌, ◌+◌, ◌-◌, ◌≤◌, take, length}
use Rattle.term_pool.specs.Pools.{Extends}
use Rattle.term_pool.specs.FirstTerms.{function_arguments}
use Rattle.value_enum.specs.Values.{AreTermsOf}
use Rattle.value_enum.specs.Shapes.{functions_of, list_at}
use Rattle.value_enum.specs.Levels.{shape_of, built_over, values_weighing}
use Rattle.value_enum.proofs.levels.values_weighing.Given as goal

abbrev pub invariant-loop-constructor : goal.invariant-loop-constructor
invariant-loop-constructor l =
    record {
      kept : Extends l.fn.pool.trees l.pool.trees;
      constants : l.pool.constants ≡ l.fn.pool.constants;
      room : length l.values.items ≤ l.bound + 1;
      added : AreTermsOf l.pool.trees l.values.items (take (l.bound + 1) (built_over (function_arguments l.sig.functions) (values_weighing (shape_of l.sig l.shapes)) (functions_of (take l.constructor-index (list_at l.shapes.constructors.items l.fn.sort.0))) (length l.tuples - 1)));
    }
