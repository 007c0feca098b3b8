use Rattle.stack_encoder.proofs.FrameTrees.{AreOtherNumbers}
use Rattle.stack_encoder.proofs.layouts.value_beside.Given as goal

abbrev pub invariant-loop-number : goal.invariant-loop-number
invariant-loop-number l = AreOtherNumbers l.numbers l.number l.column
