use Rattle.stack_encoder.proofs.FrameTrees.{IsFillingFrame}
use Rattle.stack_encoder.proofs.frames.add_columns.Given as goal

abbrev pub invariant-loop-column : goal.invariant-loop-column
invariant-loop-column l = IsFillingFrame l.place l.args l.defaults l.fn.found.items l.column l.found.items
