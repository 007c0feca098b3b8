use Rattle.std.proofs.Common.{◌≡◌, ◌<◌, ℕ, length}
use Rattle.std.specs.Prelude.{slice_index_or}
use Rattle.trace_replay.specs.Decidings.{fail}
use Rattle.aut_check.specs.Tables.{answers_of, column_answers, tables_of, IsBest}
use Rattle.aut_check.proofs.tables.best_of_columns.Given as goal

abbrev pub invariant-loop-column : goal.invariant-loop-column
invariant-loop-column l = record {
  long : length l.bests.items ≡ l.column;
  bests : (column : ℕ) → column < l.column → IsBest (column_answers (tables_of l.rows) column) (slice_index_or (answers_of l.bests.items) column fail);
}
