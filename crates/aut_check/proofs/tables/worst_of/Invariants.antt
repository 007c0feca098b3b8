use Rattle.std.proofs.Common.{take}
use Rattle.aut_check.specs.Tables.{answers_of, settled_verdict, IsWorst}
use Rattle.aut_check.proofs.tables.worst_of.Given as goal

abbrev pub invariant-loop-best : goal.invariant-loop-best
invariant-loop-best l = IsWorst (answers_of (take l.best-index l.bests)) (settled_verdict l.one_fails)
