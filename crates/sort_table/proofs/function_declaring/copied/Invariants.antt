use Rattle.std.proofs.Common.{◌≡◌, take}
use Rattle.sort_table.proofs.function_declaring.copied.Given as goal

abbrev pub invariant-loop-sort : goal.invariant-loop-sort
invariant-loop-sort l = l.copy.items ≡ take l.sort-index l.sorts
