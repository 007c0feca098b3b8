use Rattle.std.proofs.Common.{◌≡◌, ◌+◌, ◌≤◌, length}
use Rattle.term_pool.specs.Pools.{Extends}
use Rattle.value_enum.specs.Values.{AreTermsOf}
use Rattle.value_enum.specs.Levels.{shape_of, values_up_to, AreLevels, AreHeaviest, AreWeightsOfValues}
use Rattle.value_enum.proofs.enumerating.first_values.Given as goal

abbrev pub invariant-loop-lighter : goal.invariant-loop-lighter
invariant-loop-lighter l =
    record {
      kept : Extends l.fn.pool.trees l.pool.trees;
      constants : l.pool.constants ≡ l.fn.pool.constants;
      levels : AreLevels l.sig l.shapes l.bound l.pool.trees l.levels;
      count : length l.levels.values.items ≡ l.lighter + 1;
      listed : AreTermsOf l.pool.trees l.list.items (values_up_to (shape_of l.sig l.shapes) l.sort l.lighter);
      room : length l.list.items ≤ l.bound;
      size : length l.heaviest.items ≡ length l.shapes.constructors.items;
      heaviest : AreHeaviest l.sig l.shapes.sorts.keys l.heaviest.items l.lighter;
      noted : AreWeightsOfValues l.sig l.shapes.sorts.keys l.heaviest.items;
    }
