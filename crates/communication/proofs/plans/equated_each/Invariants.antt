use Rattle.std.proofs.Common.{◌≡◌, map, take}
use Rattle.process_terms.specs.PlainProcesses.{plain_action}
use Rattle.communication.specs.Places.{plain_group}
use Rattle.communication.specs.Plans.{equalities_of_each, equated}
use Rattle.communication.proofs.plans.equated_each.Given as goal

abbrev pub invariant-loop-group : goal.invariant-loop-group
invariant-loop-group l = equalities_of_each l.found.items ≡ map (equated l.sig (map plain_action l.actions)) (map plain_group (take l.group-index l.groups))
