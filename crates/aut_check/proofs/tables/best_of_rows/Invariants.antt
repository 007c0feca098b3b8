use Rattle.std.proofs.Common.{take}
use Rattle.std.specs.List.{AllZip}
use Rattle.aut_check.specs.Tables.{answers_of, tables_of, IsBest}
use Rattle.aut_check.proofs.tables.best_of_rows.Given as goal

abbrev pub invariant-loop-row : goal.invariant-loop-row
invariant-loop-row l = AllZip IsBest (tables_of (take l.row-index l.rows)) (answers_of l.bests.items)
