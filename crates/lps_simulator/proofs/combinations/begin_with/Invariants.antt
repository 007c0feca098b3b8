use Rattle.std.proofs.Common.{◌≡◌, take}
use Rattle.lps_simulator.specs.Combinations.{rows, places_read}
use Rattle.lps_simulator.proofs.combinations.begin_with.Given as goal

abbrev pub invariant-loop-number : goal.invariant-loop-number
invariant-loop-number l = places_read (rows l.lists) (take l.number l.places) ≡ take l.number l.values
