use Rattle.std.proofs.Common.{◌≡◌, ◌++◌, map, take}
use Rattle.std.specs.Prelude.{flat_map}
use Rattle.process_terms.specs.PlainProcesses.{plain_action}
use Rattle.communication.specs.Plans.{action_at_place, equated_with}
use Rattle.communication.proofs.plans.add_equated.Given as goal

abbrev pub invariant-loop-other : goal.invariant-loop-other
invariant-loop-other l = l.found.items ≡ l.fn.found.items ++ flat_map (λ p. equated_with l.sig (plain_action l.first) (action_at_place (map plain_action l.actions) p)) (take l.other-index l.other-items)
