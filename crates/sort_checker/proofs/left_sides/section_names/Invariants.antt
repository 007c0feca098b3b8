use Rattle.std.proofs.Common.{◌≡◌, take}
use Rattle.sort_table.specs.Expressions.{Name}
use Rattle.sort_checker.specs.NameNumbers.{has_name}
use Rattle.sort_checker.specs.Operators.{stands_in}
use Rattle.sort_checker.specs.LeftTrees.{names_before}
use Rattle.sort_checker.proofs.left_sides.section_names.Given as goal

abbrev pub invariant-loop-declaration : goal.invariant-loop-declaration
invariant-loop-declaration l = (n : Name) → has_name l.names n ≡ stands_in n (names_before (take l.declaration-index l.declarations))
