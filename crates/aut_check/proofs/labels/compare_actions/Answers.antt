use Rattle.std.proofs.Common.{ap, sym}
use Rattle.process_terms.specs.PlainProcesses.{plain_action}
use Rattle.trace_replay.specs.DecidedConditions.{answer_of}
use Rattle.trace_replay.proofs.EqualityTerms.{sorts_inside}
use Rattle.aut_check.specs.Comparing.{setting}
use Rattle.aut_check.proofs.ClosedTerms.{action_is, actions_come_so, actions_differ, first_closed, if_ok_then, same_act, second_closed}
use Rattle.aut_check.proofs.labels.compare_actions.Goals as goal

pub returns-then-left-right-clause-comes : goal.returns-then-left-right-clause-comes
returns-then-left-right-clause-comes g c = λ own h.
    actions_differ c.args.sig.now c.signature_stands.ensures (setting c.args.sig.now own c.args.fuel) c.args.pool.now.trees (plain_action c.args.left.now) (plain_action c.args.right.now) c.requires.left c.requires.right (λ e. c.if-left-right.true (ap (λ i. i.0) (sym e)))

pub decide_equal-requires-clause-sorts : goal.decide_equal-requires-clause-sorts
decide_equal-requires-clause-sorts g c =
    sorts_inside c.args.sig.now c.signature_stands.ensures c.args.pool.now.trees (plain_action c.args.left.now) _ (action_is c.args.sig.now c.signature_stands.ensures c.args.pool.now.trees (plain_action c.args.left.now) c.requires.left) c.sorts_of-sorts.result.now c.sorts_of-sorts.ensures

pub decide_equal-requires-clause-firsts : goal.decide_equal-requires-clause-firsts
decide_equal-requires-clause-firsts g c =
    first_closed c.args.sig.now c.signature_stands.ensures c.args.pool.now.trees (plain_action c.args.left.now) c.sorts_of-sorts.result.now c.as_slice-firsts.result.now c.requires.left c.sorts_of-sorts.ensures c.as_slice-firsts.ensures.value

pub decide_equal-requires-clause-seconds : goal.decide_equal-requires-clause-seconds
decide_equal-requires-clause-seconds g c =
    second_closed c.args.sig.now c.signature_stands.ensures c.args.pool.now.trees (plain_action c.args.left.now) (plain_action c.args.right.now) c.sorts_of-sorts.result.now c.as_slice-seconds.result.now c.requires.left c.requires.right (same_act c.args.right.now.act c.args.left.now.act (sym c.if-left-right.false))
    c.sorts_of-sorts.ensures c.as_slice-seconds.ensures.value

pub returns-clause-comes : goal.returns-clause-comes
returns-clause-comes g c = if_ok_then c.decide_equal.result (λ a k. λ own h.
    actions_come_so c.args.sig.now c.signature_stands.ensures (setting c.args.sig.now own c.args.fuel) c.args.pool.now.trees (plain_action c.args.left.now) (plain_action c.args.right.now) c.sorts_of-sorts.result.now c.as_slice-firsts.result.now c.as_slice-seconds.result.now (answer_of a)
    c.requires.left c.requires.right (same_act c.args.right.now.act c.args.left.now.act (sym c.if-left-right.false)) c.sorts_of-sorts.ensures c.as_slice-firsts.ensures.value c.as_slice-seconds.ensures.value (k own h)) c.decide_equal.ensures.comes
