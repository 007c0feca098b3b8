use Rattle.std.proofs.Common.{length, map}
use Rattle.process_terms.specs.PlainProcesses.{plain_action}
use Rattle.action_filters.proofs.Loops.{mapped_item}
use Rattle.communication.specs.Ways.{ItemHas}
use Rattle.communication.specs.Places.{plain_item}
use Rattle.communication.specs.PlaceConditions.{IsWithin, ItemHasResult}
use Rattle.communication.proofs.plans.label_of.Goals as goal

pub action_of-requires-clause-within : goal.action_of-requires-clause-within
action_of-requires-clause-within c = mapped_item plain_item (ItemHas (IsWithin (length c.args.actions.now))) c.args.items.now c.loop-item.item-index c.item-item.result c.item-item.result c.loop-item-test.true c.item-item.is c.requires.within

pub action_of-requires-clause-results : goal.action_of-requires-clause-results
action_of-requires-clause-results c = mapped_item plain_item (ItemHasResult c.args.sig.now (map plain_action c.args.actions.now)) c.args.items.now c.loop-item.item-index c.item-item.result c.item-item.result c.loop-item-test.true c.item-item.is c.requires.results
