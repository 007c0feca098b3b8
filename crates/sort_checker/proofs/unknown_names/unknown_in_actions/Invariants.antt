use Rattle.std.proofs.Common.{◌≡◌, None, map, take}
use Rattle.mcrl2_syntax.specs.ProcessParts.{plain_action}
use Rattle.sort_checker.specs.UnknownTrees.{unknown_in_actions}
use Rattle.sort_checker.proofs.unknown_names.unknown_in_actions.Given as goal

abbrev pub invariant-loop-action : goal.invariant-loop-action
invariant-loop-action l = unknown_in_actions l.known l.scope (map plain_action (take l.action-index l.actions)) ≡ None
