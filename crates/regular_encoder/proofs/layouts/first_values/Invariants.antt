use Rattle.regular_encoder.proofs.FirstTerms.{IsFinding}
use Rattle.regular_encoder.proofs.layouts.first_values.Given as goal

abbrev pub invariant-loop-column : goal.invariant-loop-column
invariant-loop-column l = IsFinding l.place l.args l.fn.sig l.fn.pool l.columns l.column-index l.sig l.pool l.firsts.items
