use Rattle.std.proofs.Common.{◌≡◌, take}
use Rattle.aut_check.specs.Matchings.{rows}
use Rattle.aut_check.specs.Tables.{marked, tables_of}
use Rattle.aut_check.proofs.tables.marks_of.Given as goal

abbrev pub invariant-loop-row : goal.invariant-loop-row
invariant-loop-row l = rows l.marks.items ≡ marked l.open_too (tables_of (take l.row-index l.rows))
