use Rattle.std.proofs.Common.{take}
use Rattle.term_pool.specs.Pools.{Extends}
use Rattle.lps_simulator.specs.Combinations.{rows}
use Rattle.lps_simulator.specs.SumValues.{AreSumValues}
use Rattle.lps_simulator.proofs.sum_values.sum_values.Given as goal

abbrev pub invariant-loop-sum : goal.invariant-loop-sum
invariant-loop-sum l = record {
  kept : Extends l.fn.pool.trees l.pool.trees;
  listed : AreSumValues l.sig l.bound l.pool.trees (take l.sum-index l.sums) (rows l.lists.items) l.cut;
}
