use Rattle.std.proofs.Common.{◌+◌, List, rules, subst, take}
use Rattle.std.proofs.lemmas.List.{take_all}
use Rattle.trace_replay.specs.declared.deciding.Answer.{Answer as CodeAnswer}
use Rattle.trace_replay.specs.DecidedConditions.{answer_of}
use Rattle.aut_check.specs.Tables.{answers_of, IsBest}
use Rattle.aut_check.proofs.TableLaws.{best_first, best_turn, taken}
use Rattle.aut_check.proofs.tables.best_of_row.Goals as goal

pub loop-answer-init : goal.loop-answer-init
loop-answer-init c = best_first

pub loop-answer-preserved : goal.loop-answer-preserved
loop-answer-preserved c =
    best_turn (answers_of (take (c.loop-answer.answer-index + 1) c.args.row.now)) (answers_of (take c.loop-answer.answer-index c.args.row.now)) (answer_of c.loop-answer.best) _ (answer_of c.better-best.result) (taken answer_of c.args.row.now c.loop-answer.answer-index _ c.loop-answer-test.true (search rules)) c.better-best.ensures c.loop-answer.invariant

pub returns : goal.returns
returns c = subst (λ (z : List CodeAnswer). IsBest (answers_of z) (answer_of c.loop-answer.best)) (take_all c.loop-answer.answer-index c.args.row.now c.loop-answer-test.false) c.loop-answer.invariant
