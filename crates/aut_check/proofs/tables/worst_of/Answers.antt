use Rattle.std.proofs.Common.{◌+◌, List, ap, rules, subst, sym, take}
use Rattle.std.proofs.lemmas.List.{take_all}
use Rattle.trace_replay.specs.declared.deciding.Answer.{Answer as CodeAnswer}
use Rattle.trace_replay.specs.DecidedConditions.{answer_of}
use Rattle.aut_check.specs.declared.verdicts.StateVerdict.{StateVerdict}
use Rattle.aut_check.specs.Tables.{answers_of, settled_verdict, IsWorst}
use Rattle.aut_check.proofs.TableLaws.{taken, worst_first, worst_turn_hold}
use Rattle.aut_check.proofs.tables.worst_of.Goals as goal

pub loop-best-init : goal.loop-best-init
loop-best-init c = worst_first

pub loop-best-preserved-in-Hold : goal.loop-best-preserved-in-Hold
loop-best-preserved-in-Hold c =
    worst_turn_hold (answers_of (take (c.loop-best.best-index + 1) c.args.bests.now)) (answers_of (take c.loop-best.best-index c.args.bests.now)) c.loop-best.one_fails _ (taken answer_of c.args.bests.now c.loop-best.best-index _ c.loop-best-test.true (search rules)) (ap answer_of c.in-Hold.is) c.loop-best.invariant

pub returns : goal.returns
returns c =
    subst (λ (z : StateVerdict). IsWorst (answers_of c.args.bests.now) z) (sym c.without_open.ensures)
    (subst (λ (z : List CodeAnswer). IsWorst (answers_of z) (settled_verdict c.loop-best.one_fails)) (take_all c.loop-best.best-index c.args.bests.now c.loop-best-test.false) c.loop-best.invariant)
