use Rattle.std.proofs.Common.{◌<◌, ◌≤◌, ◌∙◌, length, sym, arith}
use Rattle.std.specs.Prelude.{IfSome}
use Rattle.lps_core.specs.PlainLinears.{PlainSummand, plain_summand}
use Rattle.lps_core.specs.TreeSummands.{IsSummandIn}
use Rattle.lps_core.proofs.KeptSummands.{next_in_kept}
use Rattle.lps_core.proofs.PoolTrees.{all_in_kept, tree_kept}
use Rattle.lps_parelm.proofs.UseLoops.{mapped_item}
use Rattle.graphs.proofs.Ranking.{on_true, on_false}
use Rattle.lps_constelm.proofs.ChangingSteps.{put_back, none_stays, one_changes_here, one_more_stays, all_stay}
use Rattle.lps_constelm.proofs.changing.changes.Goals as goal

pub loop-summand-init : goal.loop-summand-init
loop-summand-init c = none_stays _ _ _ _ _

pub next_changes-requires-clause-place : goal.next_changes-requires-clause-place
next_changes-requires-clause-place c = mapped_item plain_summand (λ (s : PlainSummand). IfSome s.next (λ ids. c.args.place < length ids)) c.args.summands.now c.loop-summand.summand-index c.summand-item.result c.summand-item.result c.loop-summand-test.true c.summand-item.is c.requires.place

pub next_changes-requires-clause-within : goal.next_changes-requires-clause-within
next_changes-requires-clause-within c =
    next_in_kept c.args.pool.now.trees c.loop-summand.pool.trees c.loop-summand.invariant.kept (plain_summand c.summand-item.result).next
    (mapped_item plain_summand (IsSummandIn c.args.pool.now.trees) c.args.summands.now c.loop-summand.summand-index c.summand-item.result c.summand-item.result c.loop-summand-test.true c.summand-item.is c.requires.within).next

pub next_changes-requires-clause-listed : goal.next_changes-requires-clause-listed
next_changes-requires-clause-listed c = all_in_kept c.args.pool.now.trees c.loop-summand.pool.trees _ c.loop-summand.invariant.kept c.requires.listed

pub next_changes-requires-clause-init : goal.next_changes-requires-clause-init
next_changes-requires-clause-init c = (tree_kept c.args.pool.now.trees c.loop-summand.pool.trees c.args.init c.loop-summand.invariant.kept c.requires.init).1

pub next_changes-requires-clause-own : goal.next_changes-requires-clause-own
next_changes-requires-clause-own c =
    let ts = c.args.pool.now.trees in
    let us = c.loop-summand.pool.trees in
    put_back ts us c.args.by.now c.args.place c.args.init c.loop-summand.invariant.kept c.requires.listed c.requires.init c.args.own c.requires.own_in ∙ c.requires.own ∙ sym (tree_kept ts us c.args.init c.loop-summand.invariant.kept c.requires.init).0

pub returns-then-branch-clause-changes : goal.returns-then-branch-clause-changes
returns-then-branch-clause-changes c =
    one_changes_here c.args.pool.now.trees c.loop-summand.pool.trees c.args.by.now c.args.place c.args.init c.args.summands.now c.loop-summand.summand-index c.summand-item.result c.loop-summand.invariant c.loop-summand-test.true c.summand-item.is c.requires.listed c.requires.init
    (mapped_item plain_summand (IsSummandIn c.args.pool.now.trees) c.args.summands.now c.loop-summand.summand-index c.summand-item.result c.summand-item.result c.loop-summand-test.true c.summand-item.is c.requires.within).next
    (mapped_item plain_summand (λ (s : PlainSummand). IfSome s.next (λ ids. c.args.place < length ids)) c.args.summands.now c.loop-summand.summand-index c.summand-item.result c.summand-item.result c.loop-summand-test.true c.summand-item.is c.requires.place)
    (on_true _ _ _ c.if-branch.true c.in_ok-next_changes.ensures.changes)

pub loop-summand-preserved : goal.loop-summand-preserved
loop-summand-preserved c =
    one_more_stays c.args.pool.now.trees c.loop-summand.pool.trees c.args.by.now c.args.place c.args.init c.args.summands.now c.loop-summand.summand-index c.summand-item.result c.loop-summand.invariant c.loop-summand-test.true c.summand-item.is c.requires.listed c.requires.init
    (mapped_item plain_summand (IsSummandIn c.args.pool.now.trees) c.args.summands.now c.loop-summand.summand-index c.summand-item.result c.summand-item.result c.loop-summand-test.true c.summand-item.is c.requires.within).next
    (mapped_item plain_summand (λ (s : PlainSummand). IfSome s.next (λ ids. c.args.place < length ids)) c.args.summands.now c.loop-summand.summand-index c.summand-item.result c.summand-item.result c.loop-summand-test.true c.summand-item.is c.requires.place)
    c.next_changes.new.pool.trees c.next_changes.ensures.kept (on_false _ _ _ c.if-branch.false c.in_ok-next_changes.ensures.changes)

pub returns-clause-changes : goal.returns-clause-changes
returns-clause-changes c =
    let n = c.loop-summand-test.false in
    let l : length c.args.summands.now ≤ c.loop-summand.summand-index = omega (arith, n) in
    all_stay c.args.pool.now.trees c.loop-summand.pool.trees c.args.by.now c.args.place c.args.init c.args.summands.now c.loop-summand.summand-index c.loop-summand.invariant l
