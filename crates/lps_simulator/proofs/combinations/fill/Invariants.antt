use Rattle.std.proofs.Common.{◌≡◌, ◌-◌, length}
use Rattle.lps_simulator.specs.Combinations.{rows, AreWithin, from_places}
use Rattle.lps_simulator.proofs.combinations.fill.Given as goal

abbrev pub invariant-loop-places : goal.invariant-loop-places
invariant-loop-places l = record {
  within : AreWithin (rows l.lists) l.places.items;
  left : from_places (rows l.lists) l.places.items ≡ from_places (rows l.lists) l.fn.places.items;
}

abbrev pub decreases-loop-places : goal.decreases-loop-places
decreases-loop-places l = length l.lists - length l.places.items
