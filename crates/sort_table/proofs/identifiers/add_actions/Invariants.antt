use Rattle.std.proofs.Common.{◌≡◌, ◌++◌, map, take}
use Rattle.std.specs.List.{flat_map}
use Rattle.mcrl2_syntax.specs.ProcessParts.{plain_action}
use Rattle.sort_table.specs.Identifiers.{in_action}
use Rattle.sort_table.specs.LentTexts.{texts_of}
use Rattle.sort_table.proofs.identifiers.add_actions.Given as goal

abbrev pub invariant-loop-action : goal.invariant-loop-action
invariant-loop-action l = texts_of l.list.items ≡ texts_of l.fn.list.items ++ flat_map in_action (map plain_action (take l.action-index l.actions))
