use Rattle.std.proofs.Common.{◌≡◌, take}
use Rattle.lps_simulator.specs.Combinations.{rows, places_read}
use Rattle.lps_simulator.proofs.combinations.values_at.Given as goal

abbrev pub invariant-loop-number : goal.invariant-loop-number
invariant-loop-number l = l.values.items ≡ places_read (rows l.lists) (take l.number l.places)
