use Rattle.std.proofs.Common.{take}
use Rattle.trace_replay.specs.DecidedConditions.{answer_of}
use Rattle.aut_check.specs.Tables.{column_answers, tables_of, IsBest}
use Rattle.aut_check.proofs.tables.best_of_column.Given as goal

abbrev pub invariant-loop-row : goal.invariant-loop-row
invariant-loop-row l = IsBest (column_answers (tables_of (take l.row-index l.rows)) l.column) (answer_of l.best)
