-- Where combinations stand.
use Rattle.std.specs.Prelude.{◌≡◌, false}
use Rattle.lps_simulator.specs.declared.combinations.Combinations.TheInside.{Inside}
use Rattle.lps_simulator.specs.Combinations.{rows, AreWithin, AreFilled}

pub record StandsAtPlaces (c : Inside) : Type 0 where
  pub within : AreWithin (rows c.lists.items) c.places.items
  pub filled : c.over ≡ false → AreFilled (rows c.lists.items)
