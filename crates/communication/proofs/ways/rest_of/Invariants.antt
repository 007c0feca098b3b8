use Rattle.std.proofs.Common.{◌≡◌, map, take}
use Rattle.communication.specs.Places.{plain_item}
use Rattle.communication.specs.Ways.{rest}
use Rattle.communication.proofs.ways.rest_of.Given as goal

abbrev pub invariant-loop-item : goal.invariant-loop-item
invariant-loop-item l = l.found.items ≡ rest (map plain_item (take l.item-index l.items))
