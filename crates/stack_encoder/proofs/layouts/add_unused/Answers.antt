use Rattle.stack_encoder.proofs.NeededColumns.{unused_more}
use Rattle.stack_encoder.proofs.layouts.add_unused.Goals as goal

pub loop-column-preserved : goal.loop-column-preserved
loop-column-preserved c = unused_more c.args.needed.now.keys c.loop-column.needed.keys c.add_unless_used.new.needed.keys c.args.place.now c.loop-column.column c.loop-column.invariant c.in_ok-add_unless_used.ensures
