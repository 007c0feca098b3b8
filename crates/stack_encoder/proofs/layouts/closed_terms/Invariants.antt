use Rattle.stack_encoder.proofs.ClosedColumns.{IsClosing}
use Rattle.stack_encoder.proofs.layouts.closed_terms.Given as goal

abbrev pub invariant-loop-number : goal.invariant-loop-number
invariant-loop-number l = IsClosing l.kinds.keys l.needed.keys l.fn.sig l.fn.pool l.number l.sig l.pool l.terms.items
