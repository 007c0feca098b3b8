use Rattle.aut_check.proofs.MarkedTables.{numbers_are_order}
use Rattle.aut_check.proofs.matchings.all_columns.Goals as goal

pub returns : goal.returns
returns c = numbers_are_order c.args.count c.loop-column.column c.loop-column.columns.items c.loop-column-test.false c.loop-column.auto.column-end c.loop-column.invariant.many c.loop-column.invariant.at
