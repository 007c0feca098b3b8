use Rattle.std.proofs.Common.{◌≡◌}
use Rattle.regular_encoder.specs.TreeEncoding.{plain_layout}
use Rattle.regular_encoder.proofs.EncodedEquations.{IsEncodingForm}
use Rattle.regular_encoder.proofs.linear.encode_equations.Given as goal

abbrev pub invariant-loop-number : goal.invariant-loop-number
invariant-loop-number l = IsEncodingForm (plain_layout l.layout) l.fn.pool.trees l.equations l.number l.pool.trees l.summands.items × (l.pool.constants ≡ l.fn.pool.constants)
