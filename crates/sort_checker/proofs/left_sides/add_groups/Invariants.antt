use Rattle.std.proofs.Common.{take}
use Rattle.sort_checker.specs.NameNumbers.{AddsNames}
use Rattle.sort_checker.specs.LeftTrees.{names_of_groups}
use Rattle.sort_checker.proofs.left_sides.add_groups.Given as goal

abbrev pub invariant-loop-group : goal.invariant-loop-group
invariant-loop-group l = AddsNames l.fn.names l.names (names_of_groups (take l.group-index l.groups))
