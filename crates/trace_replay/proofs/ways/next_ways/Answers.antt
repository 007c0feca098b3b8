use Rattle.std.proofs.Common.{◌≡◌, ◌∙◌, ◌<◌, ◌+◌, List, [], length, map, take, refl, sym, ap, subst}
use Rattle.std.specs.Prelude.{ℕ}
use Rattle.std.specs.List.{All}
use Rattle.std.proofs.lemmas.List.{take_all}
use Rattle.process_terms.specs.PlainProcesses.{plain_action}
use Rattle.data_rewriter.specs.Standing.{IsTerm}
use Rattle.lps_core.proofs.PoolTrees.{extends_itself, extends_on}
use Rattle.lps_simulator.proofs.Bindings.{terms_stay}
use Rattle.trace_replay.specs.declared.ways.Way.{Way}
use Rattle.trace_replay.specs.Ways.{PlainWay, plain_way, AreNext}
use Rattle.trace_replay.proofs.EqualityTerms.{action_stays, label_stays}
use Rattle.trace_replay.proofs.WayLemmas.{next_before, next_first, next_more}
use Rattle.trace_replay.proofs.WaysInCode.{begun_at, begun_taken}
use Rattle.trace_replay.proofs.ways.next_ways.Goals as goal

pub loop-one-init : goal.loop-one-init
loop-one-init c = record {
  kept = extends_itself c.args.pool.now.trees;
  next = λ a m h k.
      subst (λ (z : List Way). AreNext c.args.sig.now c.args.pool.now.trees c.args.pool.now.trees c.args.action.now.act a (map plain_action c.args.given.now) m [] (map plain_way z)) (sym c.new-found.ensures.items) (next_first c.args.sig.now c.args.pool.now.trees c.args.action.now.act a (map plain_action c.args.given.now) m);
}

pub add_next-requires-clause-action : goal.add_next-requires-clause-action
add_next-requires-clause-action c = let r = c.requires.action in (r.0, action_stays c.args.sig.now c.args.pool.now.trees c.loop-one.pool.trees c.loop-one.invariant.kept (plain_action c.args.action.now) r.0 r.1)

pub add_next-requires-clause-given : goal.add_next-requires-clause-given
add_next-requires-clause-given c = let r = c.requires.given in (r.0, label_stays c.args.sig.now c.args.pool.now.trees c.loop-one.pool.trees c.loop-one.invariant.kept (map plain_action c.args.given.now) r.0 r.1)

pub add_next-requires-clause-conditions : goal.add_next-requires-clause-conditions
add_next-requires-clause-conditions c =
    terms_stay c.args.sig.now c.args.pool.now.trees c.loop-one.pool.trees c.one-item.result.conditions.items c.loop-one.invariant.kept
    (begun_at (λ (w : PlainWay). All (IsTerm c.args.sig.now c.args.pool.now.trees) w.conditions) c.args.begun.now c.loop-one.one-index c.one-item.result c.loop-one-test.true c.one-item.is c.requires.conditions)

pub add_next-requires-clause-within : goal.add_next-requires-clause-within
add_next-requires-clause-within c = begun_at (λ (w : PlainWay). All (λ (place : ℕ). place < length c.args.given.now) w.left) c.args.begun.now c.loop-one.one-index c.one-item.result c.loop-one-test.true c.one-item.is c.requires.within

pub loop-one-preserved : goal.loop-one-preserved
loop-one-preserved c = record {
  kept = extends_on c.args.pool.now.trees c.loop-one.pool.trees c.add_next.new.pool.trees c.loop-one.invariant.kept c.add_next.ensures.kept;
  next = λ a m h k.
      subst (λ (z : List PlainWay). AreNext c.args.sig.now c.args.pool.now.trees c.add_next.new.pool.trees c.args.action.now.act a (map plain_action c.args.given.now) m z (map plain_way c.add_next.new.found.items)) (begun_taken c.args.begun.now c.loop-one.one-index c.one-item.result c.loop-one-test.true c.one-item.is)
      (next_more c.args.sig.now c.args.pool.now.trees c.loop-one.pool.trees c.add_next.new.pool.trees c.add_next.ensures.kept c.args.action.now.act a (map plain_action c.args.given.now) m (map plain_way (take c.loop-one.one-index c.args.begun.now)) (plain_way c.one-item.result) (map plain_way c.loop-one.found.items) (map plain_way c.add_next.new.found.items)
      (c.loop-one.invariant.next a m h k)
      (next_before c.args.sig.now c.args.pool.now.trees c.loop-one.pool.trees c.add_next.new.pool.trees c.loop-one.invariant.kept c.args.action.now.act a (map plain_action c.args.given.now) m (plain_way c.one-item.result) (length c.one-item.result.left.items) (map plain_way c.loop-one.found.items) (map plain_way c.add_next.new.found.items)
      (begun_at (λ (w : PlainWay). All (IsTerm c.args.sig.now c.args.pool.now.trees) w.conditions) c.args.begun.now c.loop-one.one-index c.one-item.result c.loop-one-test.true c.one-item.is c.requires.conditions)
      (c.in_ok-add_next.ensures.added a m (action_stays c.args.sig.now c.args.pool.now.trees c.loop-one.pool.trees c.loop-one.invariant.kept (plain_action c.args.action.now) a h) (label_stays c.args.sig.now c.args.pool.now.trees c.loop-one.pool.trees c.loop-one.invariant.kept (map plain_action c.args.given.now) m k))));
}

pub returns-clause-next : goal.returns-clause-next
returns-clause-next c = λ a m h k.
    subst (λ (z : List Way). AreNext c.args.sig.now c.args.pool.now.trees c.loop-one.pool.trees c.args.action.now.act a (map plain_action c.args.given.now) m (map plain_way z) (map plain_way c.loop-one.found.items)) (take_all c.loop-one.one-index c.args.begun.now c.loop-one-test.false) (c.loop-one.invariant.next a m h k)
