use Rattle.std.proofs.Common.{◌≡◌, ◌++◌, map, drop}
use Rattle.communication.specs.Places.{joining_of, placed, plain_group}
use Rattle.communication.specs.Ways.{further}
use Rattle.communication.proofs.ways.further_of.Given as goal

abbrev pub invariant-loop-index : goal.invariant-loop-index
invariant-loop-index l = map plain_group l.found.items ++ further placed (map joining_of l.rules) (drop l.index l.rest) ≡ further placed (map joining_of l.rules) l.rest
