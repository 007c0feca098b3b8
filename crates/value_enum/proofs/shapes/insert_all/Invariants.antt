use Rattle.std.proofs.Common.{take}
use Rattle.value_enum.specs.Shapes.{AddsSorts}
use Rattle.value_enum.proofs.shapes.insert_all.Given as goal

abbrev pub invariant-loop-sort : goal.invariant-loop-sort
invariant-loop-sort l = AddsSorts (take l.sort-index l.added) l.fn.sorts.keys l.sorts.keys
