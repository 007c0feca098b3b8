use Rattle.std.proofs.Common.{◌≡◌, ◌++◌, take}
use Rattle.sort_checker.specs.LeftTrees.{names_of_groups}
use Rattle.sort_checker.proofs.unknown_names.enter_groups.Given as goal

abbrev pub invariant-loop-group : goal.invariant-loop-group
invariant-loop-group l = l.scope ≡ l.fn.scope ++ names_of_groups (take l.group-index l.groups)
