use Rattle.std.proofs.Common.{◌≡◌, length}
use Rattle.lps_simulator.specs.Combinations.{rows, AreWithin, behind_places}
use Rattle.lps_simulator.proofs.combinations.pass.Given as goal

abbrev pub invariant-loop-place : goal.invariant-loop-place
invariant-loop-place l = record {
  within : AreWithin (rows l.lists) l.places.items;
  left : behind_places (rows l.lists) l.places.items ≡ behind_places (rows l.lists) l.fn.places.items;
}

abbrev pub decreases-loop-place : goal.decreases-loop-place
decreases-loop-place l = length l.places.items
