use Rattle.std.proofs.Common.{◌≡◌}
use Rattle.stack_encoder.specs.Frames.{frame_layout, plain_symbols}
use Rattle.stack_encoder.proofs.StackedTrees.{IsStackingForm}
use Rattle.stack_encoder.proofs.encoding.encode_equations.Given as goal

abbrev pub invariant-loop-number : goal.invariant-loop-number
invariant-loop-number l = IsStackingForm (plain_symbols l.symbols) (frame_layout l.fn.pool.trees l.layout) l.symbols.stack l.fn.pool.trees l.equations l.number l.pool.trees l.summands.items × (l.pool.constants ≡ l.fn.pool.constants)
