use Rattle.std.proofs.Common.{◌≡◌, map, take}
use Rattle.process_terms.specs.PlainProcesses.{plain_action}
use Rattle.communication.specs.Places.{plain_item}
use Rattle.communication.specs.Plans.{action_of_place_item}
use Rattle.communication.proofs.plans.label_of.Given as goal

abbrev pub invariant-loop-item : goal.invariant-loop-item
invariant-loop-item l = map plain_action l.made.items ≡ map (action_of_place_item l.sig (map plain_action l.actions)) (map plain_item (take l.item-index l.items))
