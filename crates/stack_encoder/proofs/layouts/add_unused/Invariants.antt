use Rattle.std.proofs.Common.{◌≡◌}
use Rattle.stack_encoder.specs.StackColumns.{unused, with_numbers}
use Rattle.stack_encoder.proofs.layouts.add_unused.Given as goal

abbrev pub invariant-loop-column : goal.invariant-loop-column
invariant-loop-column l = l.needed.keys ≡ with_numbers l.fn.needed.keys (unused l.column l.place)
