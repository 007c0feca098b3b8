use Rattle.std.proofs.Common.{◌≡◌, map, take}
use Rattle.communication.specs.Places.{plain_item}
use Rattle.communication.specs.Ways.{stays}
use Rattle.communication.proofs.ways.all_staying.Given as goal

abbrev pub invariant-loop-place : goal.invariant-loop-place
invariant-loop-place l = map plain_item l.made.items ≡ map stays (take l.place-index l.places)
