use Rattle.sort_table.specs.ConstructorMarks.{GivesBelow}
use Rattle.sort_table.proofs.constructor_sorts.give_constructors.Given as goal

abbrev pub invariant-loop-number : goal.invariant-loop-number
invariant-loop-number l = GivesBelow l.marks l.number l.fn.signature l.signature
