use Rattle.std.proofs.Common.{[], ◌∷◌, ap, arith, length, length-append}
use Rattle.trace_replay.specs.Decidings.{Answer}
use Rattle.aut_check.specs.Tables.{column_answers, tables_of, IsBest}
use Rattle.aut_check.proofs.TableLaws.{answers_more}
use Rattle.aut_check.proofs.tables.best_of_columns.Goals as goal

pub loop-column-preserved : goal.loop-column-preserved
loop-column-preserved c = record {
  long = omega (arith, ap length c.in_ok-push.ensures.items, length-append c.loop-column.bests.items (c.best_of_column.result ∷ []), c.loop-column.invariant.long);
  bests = answers_more (λ column (best : Answer). IsBest (column_answers (tables_of c.args.rows.now) column) best) c.loop-column.bests.items c.loop-column.column c.best_of_column.result c.push.new.self.items c.loop-column.invariant.long c.loop-column.invariant.bests c.best_of_column.ensures c.in_ok-push.ensures.items;
}
