use Rattle.std.proofs.Common.{◌≡◌, ◌++◌, map, take, Some}
use Rattle.value_enum.proofs.shapes.push_arguments.Given as goal

abbrev pub invariant-loop-sort : goal.invariant-loop-sort
invariant-loop-sort l = l.arguments.items ≡ l.fn.arguments.items ++ map Some (take l.sort-index l.sorts)
