use Rattle.std.proofs.Common.{take}
use Rattle.data_theory.specs.Actions.{actions_of}
use Rattle.sort_checker.specs.ActionTables.{GroupsActions}
use Rattle.sort_checker.proofs.action_tables.ActionTable.new.Given as goal

abbrev pub invariant-loop-action : goal.invariant-loop-action
invariant-loop-action l = GroupsActions l.sig (actions_of (take l.action-index l.action-items)) l.groups
