use Rattle.regular_encoder.proofs.ColumnTrees.{AreOthers}
use Rattle.regular_encoder.proofs.layouts.first_value.Given as goal

abbrev pub invariant-loop-number : goal.invariant-loop-number
invariant-loop-number l = AreOthers l.place l.number l.column
