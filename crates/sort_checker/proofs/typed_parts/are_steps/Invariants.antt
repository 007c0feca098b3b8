use Rattle.std.proofs.Common.{◌≡◌, true, map, take}
use Rattle.std.specs.List.{list_all}
use Rattle.mcrl2_syntax.specs.ProcessParts.{plain_action}
use Rattle.sort_checker.specs.TypedTrees.{is_step}
use Rattle.sort_checker.proofs.typed_parts.are_steps.Given as goal

abbrev pub invariant-loop-action : goal.invariant-loop-action
invariant-loop-action l = list_all (is_step l.context l.scope) (map plain_action (take l.action-index l.actions)) ≡ true
