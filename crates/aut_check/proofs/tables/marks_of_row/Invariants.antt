use Rattle.std.proofs.Common.{◌≡◌, map, take}
use Rattle.aut_check.specs.Tables.{answers_of, mark_of}
use Rattle.aut_check.proofs.tables.marks_of_row.Given as goal

abbrev pub invariant-loop-answer : goal.invariant-loop-answer
invariant-loop-answer l = l.marks.items ≡ map (mark_of l.open_too) (answers_of (take l.answer-index l.row))
