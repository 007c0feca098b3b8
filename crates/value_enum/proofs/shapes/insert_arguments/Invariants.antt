use Rattle.std.proofs.Common.{take}
use Rattle.value_enum.specs.Shapes.{AddsArguments}
use Rattle.value_enum.proofs.shapes.insert_arguments.Given as goal

abbrev pub invariant-loop-fun : goal.invariant-loop-fun
invariant-loop-fun l = AddsArguments l.sig (take l.fun-index l.funs) l.fn.sorts.keys l.sorts.keys
