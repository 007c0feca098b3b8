use Rattle.std.proofs.Common.{refl}
use Rattle.mcrl2_parser.proofs.CutSoFar.{passed, with_given, with_none, cut_whole, cut_within}
use Rattle.mcrl2_parser.proofs.declaring.declarations.Goals as goal
use Rattle.mcrl2_parser.proofs.declaring.declarations.Goals.{in-Some+in_ok-push, in_default, in-Some-left_over+in_ok-push-2, in_default-left_over}

pub loop-at-preserved : goal.loop-at-preserved
loop-at-preserved c =
    passed c.loop-at.cut.section _ c.section_of_kind-word.result c.is_semicolon.result c.loop-at.invariant c.loop-at-test.true c.section_of_kind-word.ensures c.is_semicolon.ensures
    (elim c.match-pass.branch [
      | in-Some+in_ok-push w ↦ with_given c.loop-at.list.items (rw w.list-is w.in_ok-push.ensures.items) w.in-Some.is c.pass.ensures.ended
      | in_default w ↦ with_none c.loop-at.list.items (rw w.list-is refl) w.in_default.is c.pass.ensures.ended
    ]) c.pass.ensures.section c.pass.ensures.start

pub returns-clause-declarations : goal.returns-clause-declarations
returns-clause-declarations c =
    cut_whole c.loop-at.invariant c.loop-at-test.false c.loop-at.auto.at-end
    (elim c.match-left_over.branch [
      | in-Some-left_over+in_ok-push-2 w ↦ with_given c.loop-at.list.items (rw w.list-is w.in_ok-push-2.ensures.items) w.in-Some-left_over.is c.left_over.ensures
      | in_default-left_over w ↦ with_none c.loop-at.list.items (rw w.list-is refl) w.in_default-left_over.is c.left_over.ensures
    ])

pub returns-clause-within : goal.returns-clause-within
returns-clause-within c =
    cut_within c.loop-at.invariant c.loop-at-test.false c.loop-at.auto.at-end
    (elim c.match-left_over.branch [
      | in-Some-left_over+in_ok-push-2 w ↦ with_given c.loop-at.list.items (rw w.list-is w.in_ok-push-2.ensures.items) w.in-Some-left_over.is c.left_over.ensures
      | in_default-left_over w ↦ with_none c.loop-at.list.items (rw w.list-is refl) w.in_default-left_over.is c.left_over.ensures
    ])
