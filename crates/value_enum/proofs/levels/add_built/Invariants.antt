use Rattle.std.proofs.Common.{◌≡◌, ◌+◌, ◌++◌, ◌≤◌, List, map, take, length}
use Rattle.term_pool.specs.Pools.{Extends}
use Rattle.term_pool.specs.ConstructorValues.{ConstructorValue, ConstructorValues, built}
use Rattle.value_enum.specs.Values.{AreTermsOf}
use Rattle.value_enum.specs.Levels.{plain_tuples, AreTuplesOf, StandUnmerged}
use Rattle.value_enum.proofs.levels.add_built.Given as goal

abbrev pub invariant-loop-tuple : goal.invariant-loop-tuple
invariant-loop-tuple l =
    record {
      kept : Extends l.fn.pool.trees l.pool.trees;
      constants : l.pool.constants ≡ l.fn.pool.constants;
      room : length l.values.items ≤ l.bound + 1;
      added : (vs : List ConstructorValue) (us : List ConstructorValues) → StandUnmerged l.fun us → AreTermsOf l.fn.pool.trees l.fn.values.items vs → AreTuplesOf l.fn.pool.trees (plain_tuples l.tuples) us
          → AreTermsOf l.pool.trees l.values.items (take (l.bound + 1) (vs ++ map (built l.fun) (take l.tuple-index us)));
    }
