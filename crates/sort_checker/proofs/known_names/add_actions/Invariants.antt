use Rattle.std.proofs.Common.{take}
use Rattle.data_theory.specs.Actions.{actions_of}
use Rattle.sort_checker.specs.NameNumbers.{AddsNames}
use Rattle.sort_checker.specs.KnownNames.{action_names}
use Rattle.sort_checker.proofs.known_names.add_actions.Given as goal

abbrev pub invariant-loop-action : goal.invariant-loop-action
invariant-loop-action l = AddsNames l.fn.names l.names (action_names l.sig (actions_of (take l.action-index l.actions)))
