use Rattle.std.proofs.Common.{◌≡◌, map, take}
use Rattle.std.specs.Prelude.{flat_map}
use Rattle.process_terms.specs.PlainProcesses.{plain_action}
use Rattle.communication.specs.Places.{plain_item}
use Rattle.communication.specs.Plans.{item_equated}
use Rattle.communication.proofs.plans.equated_in.Given as goal

abbrev pub invariant-loop-item : goal.invariant-loop-item
invariant-loop-item l = l.found.items ≡ flat_map (item_equated l.sig (map plain_action l.actions)) (map plain_item (take l.item-index l.items))
