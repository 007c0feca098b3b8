use Rattle.std.proofs.Common.{◌≡◌, ◌∙◌, ◌<◌, ◌≤◌, ◌+◌, List, length, map, refl, sym, ap, subst, arith}
use Rattle.process_terms.specs.PlainProcesses.{plain_action}
use Rattle.lps_core.proofs.PoolTrees.{extends_itself, extends_on}
use Rattle.trace_replay.specs.Ways.{PlainWay, plain_way, action_at, AddsNext}
use Rattle.trace_replay.proofs.EqualityTerms.{action_stays}
use Rattle.trace_replay.proofs.WayLemmas.{added_first, added_more, added_none}
use Rattle.trace_replay.proofs.WaysInCode.{added_all, next_made, other_differs, other_there, pushed_ways}
use Rattle.trace_replay.proofs.ways.add_next.Goals as goal

pub loop-at-init : goal.loop-at-init
loop-at-init c = record {
  kept = extends_itself c.args.pool.now.trees;
  added = λ a m h k. added_first c.args.sig.now c.args.pool.now.trees c.args.action.now.act a (map plain_action c.args.given.now) m (plain_way c.args.begun.now) (map plain_way c.args.found.now.items);
}

pub loop-at-preserved-then-other-action : goal.loop-at-preserved-then-other-action
loop-at-preserved-then-other-action c =
    let inside : c.loop-at.at < length c.args.begun.now.left.items = omega (arith, c.loop-at-test.true, c.len-at-end.ensures) in
    record {
      kept = c.loop-at.invariant.kept;
      added = λ a m h k.
          added_none c.args.sig.now c.args.pool.now.trees c.loop-at.pool.trees c.loop-at.pool.trees (extends_itself c.loop-at.pool.trees) c.args.action.now.act a (map plain_action c.args.given.now) m (plain_way c.args.begun.now) c.loop-at.at (map plain_way c.args.found.now.items) (map plain_way c.loop-at.found.items)
          (c.loop-at.invariant.added a m h k)
          (other_differs c.args.given.now c.args.begun.now.left.items c.loop-at.at c.index.result.now c.index-given-index.result inside c.index.ensures c.requires.within c.index-given-index.is c.args.action.now.act c.if-other-action.true);
    }

pub paired_with-requires-clause-left : goal.paired_with-requires-clause-left
paired_with-requires-clause-left c = let r = c.requires.action in (r.0, action_stays c.args.sig.now c.args.pool.now.trees c.loop-at.pool.trees c.loop-at.invariant.kept (plain_action c.args.action.now) r.0 r.1)

pub paired_with-requires-clause-right : goal.paired_with-requires-clause-right
paired_with-requires-clause-right c =
    let inside : c.loop-at.at < length c.args.begun.now.left.items = omega (arith, c.loop-at-test.true, c.len-at-end.ensures) in
    let r = c.requires.given in (
      action_at r.0 c.index.result.now,
      action_stays c.args.sig.now c.args.pool.now.trees c.loop-at.pool.trees c.loop-at.invariant.kept (plain_action c.index-given-index.result) (action_at r.0 c.index.result.now)
          (other_there c.args.given.now c.args.begun.now.left.items c.loop-at.at c.index.result.now c.index-given-index.result inside c.index.ensures c.requires.within c.index-given-index.is c.args.sig.now c.args.pool.now.trees r.0 r.1),
    )

pub loop-at-preserved : goal.loop-at-preserved
loop-at-preserved c =
    let inside : c.loop-at.at < length c.args.begun.now.left.items = omega (arith, c.loop-at-test.true, c.len-at-end.ensures) in
    record {
      kept = extends_on c.args.pool.now.trees c.loop-at.pool.trees c.paired_with.new.pool.trees c.loop-at.invariant.kept c.paired_with.ensures.kept;
      added = λ a m h k.
          subst (λ (z : List PlainWay). AddsNext c.args.sig.now c.args.pool.now.trees c.paired_with.new.pool.trees c.args.action.now.act a (map plain_action c.args.given.now) m (plain_way c.args.begun.now) (c.loop-at.at + 1) (map plain_way c.args.found.now.items) z)
          (pushed_ways c.loop-at.found.items c.push.new.self.items c.in_ok-paired_with.field-0 c.in_ok-push.ensures.items)
          (added_more c.args.sig.now c.args.pool.now.trees c.loop-at.pool.trees c.paired_with.new.pool.trees c.paired_with.ensures.kept c.args.action.now.act a (map plain_action c.args.given.now) m (plain_way c.args.begun.now) c.loop-at.at (map plain_way c.args.found.now.items) (map plain_way c.loop-at.found.items) (plain_way c.in_ok-paired_with.field-0)
          (c.loop-at.invariant.added a m h k)
          (next_made c.args.given.now c.args.begun.now.left.items c.loop-at.at c.index.result.now c.index-given-index.result inside c.index.ensures c.requires.within c.index-given-index.is c.args.sig.now c.args.pool.now.trees c.loop-at.pool.trees c.paired_with.new.pool.trees c.loop-at.invariant.kept c.args.action.now c.args.begun.now c.in_ok-paired_with.field-0
          refl c.if-other-action.false c.requires.conditions c.in_ok-paired_with.ensures.number c.in_ok-paired_with.ensures.over c.in_ok-paired_with.ensures.conditions c.in_ok-paired_with.ensures.left a m h k));
    }

pub returns-clause-added : goal.returns-clause-added
returns-clause-added c = λ a m h k.
    let all : length c.args.begun.now.left.items ≤ c.loop-at.at = omega (arith, c.loop-at-test.false, c.len-at-end.ensures) in
    added_all c.args.sig.now c.args.pool.now.trees c.loop-at.pool.trees c.args.action.now.act a (map plain_action c.args.given.now) m (plain_way c.args.begun.now) c.loop-at.at (length c.args.begun.now.left.items) (map plain_way c.args.found.now.items) (map plain_way c.loop-at.found.items) all (c.loop-at.invariant.added a m h k)
