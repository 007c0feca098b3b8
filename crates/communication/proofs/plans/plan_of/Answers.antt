use Rattle.std.proofs.Common.{◌∙◌, length, map, sym, subst}
use Rattle.std.specs.List.{All}
use Rattle.communication.specs.Ways.{GroupHas}
use Rattle.communication.specs.Places.{joining_of, placed, plain_group, plain_item}
use Rattle.communication.specs.PlaceConditions.{IsWithin}
use Rattle.communication.proofs.Mapped.{further_have, rest_has}
use Rattle.communication.proofs.plans.plan_of.Goals as goal

pub equated_each-requires-clause-within : goal.equated_each-requires-clause-within
equated_each-requires-clause-within c =
    subst (λ z. All (GroupHas (IsWithin (length c.args.actions.now))) (map plain_group z)) (sym c.as_slice-2.ensures.value)
    (subst (λ z. All (GroupHas (IsWithin (length c.args.actions.now))) z) (sym c.in_ok-groups.ensures)
    (further_have (IsWithin (length c.args.actions.now)) placed (map joining_of c.args.rules.now) c.as_slice.result.now
    (subst (λ z. All (IsWithin (length c.args.actions.now)) z) (sym (c.as_slice.ensures.value ∙ c.in_ok-rest.ensures)) (rest_has (IsWithin (length c.args.actions.now)) placed (map plain_item c.args.items.now) c.requires.within))))
