use Rattle.stack_encoder.proofs.NeededColumns.{added_used, added_unused}
use Rattle.stack_encoder.proofs.layouts.add_unless_used.Goals as goal

pub returns-then-is_used : goal.returns-then-is_used
returns-then-is_used c = added_used c.args.needed.now.keys c.args.place.now c.args.column c.is_used.result c.is_used.ensures c.if-is_used.true

pub returns : goal.returns
returns c = added_unused c.args.needed.now.keys c.args.place.now c.insert.new.self.keys c.args.column c.is_used.result c.is_used.ensures c.if-is_used.false c.in_ok-insert.ensures.keys
