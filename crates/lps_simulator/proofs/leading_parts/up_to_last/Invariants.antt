use Rattle.std.proofs.Common.{◌≤◌, length, drop}
use Rattle.std.specs.List.{Contains}
use Rattle.lps_simulator.proofs.leading_parts.up_to_last.Given as goal

abbrev pub invariant-loop-count : goal.invariant-loop-count
invariant-loop-count l = record {
  within : l.count ≤ length l.vars;
  none : Contains (drop l.count l.vars) l.var → ⊥;
}

abbrev pub decreases-loop-count : goal.decreases-loop-count
decreases-loop-count l = l.count
