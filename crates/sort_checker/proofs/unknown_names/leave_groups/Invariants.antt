use Rattle.std.proofs.Common.{◌≡◌, ◌-◌, length, take}
use Rattle.sort_checker.specs.LeftTrees.{names_of_groups}
use Rattle.sort_checker.proofs.unknown_names.leave_groups.Given as goal

abbrev pub invariant-loop-group : goal.invariant-loop-group
invariant-loop-group l = l.scope ≡ take (length l.fn.scope - length (names_of_groups (take l.group-index l.groups))) l.fn.scope
