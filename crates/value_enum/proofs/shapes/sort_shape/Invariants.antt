use Rattle.std.proofs.Common.{take}
use Rattle.value_enum.proofs.ShapeLemmas.{IsShaping}
use Rattle.value_enum.proofs.shapes.sort_shape.Given as goal

abbrev pub invariant-loop-fun : goal.invariant-loop-fun
invariant-loop-fun l = IsShaping l.sig (take l.fun-index l.fun-items) l.fn.arguments.items l.arguments.items l.constructors.items
