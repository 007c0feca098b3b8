use Rattle.std.proofs.Common.{◌≡◌, map, take}
use Rattle.std.specs.Prelude.{flat_map}
use Rattle.communication.specs.Places.{joining_of, placed, plain_way}
use Rattle.communication.specs.Rounds.{continued}
use Rattle.communication.proofs.ways.continued_all.Given as goal

abbrev pub invariant-loop-way : goal.invariant-loop-way
invariant-loop-way l = map plain_way l.found.items ≡ flat_map (continued placed (map joining_of l.rules)) (map plain_way (take l.way-index l.ways))
