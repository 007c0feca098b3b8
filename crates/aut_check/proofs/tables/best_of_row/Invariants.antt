use Rattle.std.proofs.Common.{take}
use Rattle.trace_replay.specs.DecidedConditions.{answer_of}
use Rattle.aut_check.specs.Tables.{answers_of, IsBest}
use Rattle.aut_check.proofs.tables.best_of_row.Given as goal

abbrev pub invariant-loop-answer : goal.invariant-loop-answer
invariant-loop-answer l = IsBest (answers_of (take l.answer-index l.row)) (answer_of l.best)
