use Rattle.std.proofs.Common.{◌≡◌, map, take}
use Rattle.communication.specs.Places.{plain_item}
use Rattle.communication.proofs.ways.copy_items.Given as goal

abbrev pub invariant-loop-item : goal.invariant-loop-item
invariant-loop-item l = map plain_item l.made.items ≡ map plain_item (take l.item-index l.items)
