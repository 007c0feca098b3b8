use Rattle.regular_encoder.proofs.NewColumns.{IsAddingColumns}
use Rattle.regular_encoder.proofs.layouts.add_columns.Given as goal

abbrev pub invariant-loop-number : goal.invariant-loop-number
invariant-loop-number l = IsAddingColumns l.fn.sig l.kinds.keys l.number l.sig l.columns.items l.names.keys
