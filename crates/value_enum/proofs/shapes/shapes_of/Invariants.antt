use Rattle.value_enum.proofs.ShapeLemmas.{AreShapesUpTo}
use Rattle.value_enum.proofs.shapes.shapes_of.Given as goal

abbrev pub invariant-loop-number : goal.invariant-loop-number
invariant-loop-number l = AreShapesUpTo l.sig l.fn.sorts.keys l.number l.constructors.items l.arguments.items
