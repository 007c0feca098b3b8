use Rattle.std.proofs.Common.{length}
use Rattle.action_filters.proofs.Loops.{mapped_item}
use Rattle.communication.specs.Ways.{ItemHas}
use Rattle.communication.specs.Places.{plain_item}
use Rattle.communication.specs.PlaceConditions.{IsWithin}
use Rattle.communication.proofs.plans.equated_in.Goals as goal

pub add_item_equated-requires-clause-within : goal.add_item_equated-requires-clause-within
add_item_equated-requires-clause-within c = mapped_item plain_item (ItemHas (IsWithin (length c.args.actions.now))) c.args.items.now c.loop-item.item-index c.item-item.result c.item-item.result c.loop-item-test.true c.item-item.is c.requires.within
