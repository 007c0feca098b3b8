use Rattle.std.proofs.Common.{length}
use Rattle.action_filters.proofs.Loops.{mapped_item}
use Rattle.communication.specs.Ways.{GroupHas}
use Rattle.communication.specs.Places.{plain_group}
use Rattle.communication.specs.PlaceConditions.{IsWithin}
use Rattle.communication.proofs.plans.equated_each.Goals as goal

pub add_equated-requires-clause-within : goal.add_equated-requires-clause-within
add_equated-requires-clause-within c = mapped_item plain_group (GroupHas (IsWithin (length c.args.actions.now))) c.args.groups.now c.loop-group.group-index c.group-item.result c.group-item.result c.loop-group-test.true c.group-item.is c.requires.within
