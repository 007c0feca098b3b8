use Rattle.std.proofs.Common.{◌<◌, ℕ, [], length, get_or}
use Rattle.lps_simulator.specs.Combinations.{rows}
use Rattle.lps_simulator.proofs.combinations.has_empty.Given as goal

abbrev pub invariant-loop-list : goal.invariant-loop-list
invariant-loop-list l = (k : ℕ) → k < l.list-index → 0 < length (get_or (rows l.lists) k [])
