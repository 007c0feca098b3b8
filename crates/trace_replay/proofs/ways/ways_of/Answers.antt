use Rattle.std.proofs.Common.{◌≡◌, ◌∙◌, ◌<◌, ◌≤◌, ◌+◌, ℕ, List, drop, get_or, length, map, refl, sym, ap, subst}
use Rattle.std.specs.List.{All}
use Rattle.std.proofs.lemmas.List.{length-map}
use Rattle.data_rewriter.specs.Standing.{IsTerm}
use Rattle.process_terms.specs.declared.labels.Action.{Action}
use Rattle.process_terms.specs.PlainProcesses.{plain_action, plain_label}
use Rattle.process_terms.specs.SignatureEntries.{entries_of}
use Rattle.lps_core.specs.PlainLinears.{plain_summand, summand_of}
use Rattle.lps_core.proofs.PoolTrees.{extends_itself, extends_on}
use Rattle.trace_replay.specs.declared.ways.Way.{Way}
use Rattle.trace_replay.specs.Ways.{PlainWay, plain_way, action_at, AreBegun, AreNext, LabelIs}
use Rattle.trace_replay.proofs.BegunWays.{begun_end, begun_over, begun_turn, begun_within, label_long}
use Rattle.trace_replay.proofs.EqualityTerms.{action_stays, label_stays}
use Rattle.trace_replay.proofs.WaysInCode.{action_in, action_there, begun_start}
use Rattle.trace_replay.proofs.ways.ways_of.Goals as goal

pub loop-action-init : goal.loop-action-init
loop-action-init c = record {
  kept = extends_itself c.args.pool.now.trees;
  begun = λ m h.
      begun_start c.args.sig.now c.args.pool.now.trees (plain_summand c.args.summand.now) m c.args.number c.args.summand.now.label.actions.items c.args.label.now.actions.items c.in_ok-first_way.field-0 (length c.as_slice-given.result.now) c.requires.cond c.requires.summand h
      c.requires.many (ap length c.as_slice-given.ensures.value) c.in_ok-first_way.ensures.number c.in_ok-first_way.ensures.conditions c.in_ok-first_way.ensures.many c.in_ok-first_way.ensures.within c.in_ok-first_way.ensures.all
      c.new-found.result.items c.push.new.self.items c.new-found.ensures.items c.in_ok-push.ensures.items;
}

pub next_ways-requires-clause-action : goal.next_ways-requires-clause-action
next_ways-requires-clause-action c =
    let inside : c.loop-action.action-index < length c.args.summand.now.label.actions.items = subst (λ (xs : List Action). c.loop-action.action-index < length xs) c.deref-action-items.ensures.value c.loop-action-test.true in
    let is = c.action-item.is ∙ ap (λ (xs : List Action). get_or xs c.loop-action.action-index c.action-item.result) c.deref-action-items.ensures.value in (
      action_at (summand_of (entries_of c.args.sig.now c.args.pool.now.trees) (plain_summand c.args.summand.now)).label c.loop-action.action-index,
      action_stays c.args.sig.now c.args.pool.now.trees c.loop-action.pool.trees c.loop-action.invariant.kept (plain_action c.action-item.result) (action_at (summand_of (entries_of c.args.sig.now c.args.pool.now.trees) (plain_summand c.args.summand.now)).label c.loop-action.action-index)
          (action_there c.args.sig.now c.args.pool.now.trees c.args.summand.now.label.actions.items (summand_of (entries_of c.args.sig.now c.args.pool.now.trees) (plain_summand c.args.summand.now)).label c.loop-action.action-index c.action-item.result c.requires.summand inside is),
    )

pub next_ways-requires-clause-given : goal.next_ways-requires-clause-given
next_ways-requires-clause-given c =
    let r = c.requires.label in
    (r.0, subst (λ (xs : List Action). LabelIs c.args.sig.now c.loop-action.pool.trees (map plain_action xs) r.0) (sym c.as_slice-given.ensures.value) (label_stays c.args.sig.now c.args.pool.now.trees c.loop-action.pool.trees c.loop-action.invariant.kept (plain_label c.args.label.now) r.0 r.1))

pub next_ways-requires-clause-conditions : goal.next_ways-requires-clause-conditions
next_ways-requires-clause-conditions c =
    let r = c.requires.label in
    subst (λ (ws : List Way). All (λ (w : PlainWay). All (IsTerm c.args.sig.now c.loop-action.pool.trees) w.conditions) (map plain_way ws)) (sym c.as_slice.ensures.value)
    (begun_over c.args.sig.now c.loop-action.pool.trees (summand_of (entries_of c.args.sig.now c.args.pool.now.trees) (plain_summand c.args.summand.now)) r.0 c.args.number (drop c.loop-action.action-index (summand_of (entries_of c.args.sig.now c.args.pool.now.trees) (plain_summand c.args.summand.now)).label) (map plain_way c.loop-action.found.items) (c.loop-action.invariant.begun r.0 r.1))

pub next_ways-requires-clause-within : goal.next_ways-requires-clause-within
next_ways-requires-clause-within c =
    let r = c.requires.label in
    let long : length c.as_slice-given.result.now ≡ length r.0 =
    ap length c.as_slice-given.ensures.value ∙ sym (length-map c.args.label.now.actions.items plain_action) ∙ label_long c.args.sig.now c.args.pool.now.trees (plain_label c.args.label.now) r.0 r.1 in
    subst (λ (ws : List Way). All (λ (w : PlainWay). All (λ (place : ℕ). place < length c.as_slice-given.result.now) w.left) (map plain_way ws)) (sym c.as_slice.ensures.value)
    (begun_within c.args.sig.now c.loop-action.pool.trees (summand_of (entries_of c.args.sig.now c.args.pool.now.trees) (plain_summand c.args.summand.now)) r.0 c.args.number (drop c.loop-action.action-index (summand_of (entries_of c.args.sig.now c.args.pool.now.trees) (plain_summand c.args.summand.now)).label) (map plain_way c.loop-action.found.items) (length c.as_slice-given.result.now) long (c.loop-action.invariant.begun r.0 r.1))

pub loop-action-preserved : goal.loop-action-preserved
loop-action-preserved c =
    let inside : c.loop-action.action-index < length c.args.summand.now.label.actions.items = subst (λ (xs : List Action). c.loop-action.action-index < length xs) c.deref-action-items.ensures.value c.loop-action-test.true in
    let is = c.action-item.is ∙ ap (λ (xs : List Action). get_or xs c.loop-action.action-index c.action-item.result) c.deref-action-items.ensures.value in
    record {
      kept = extends_on c.args.pool.now.trees c.loop-action.pool.trees c.next_ways.new.pool.trees c.loop-action.invariant.kept c.next_ways.ensures.kept;
      begun = λ m h.
          begun_turn c.args.sig.now c.signature_stands.ensures c.args.pool.now.trees c.loop-action.pool.trees c.next_ways.new.pool.trees c.next_ways.ensures.kept (summand_of (entries_of c.args.sig.now c.args.pool.now.trees) (plain_summand c.args.summand.now)) m c.args.number (plain_label c.args.summand.now.label) (plain_label c.args.label.now) c.loop-action.action-index (plain_action c.action-item.result)
          c.requires.summand h (subst (λ (n : ℕ). c.loop-action.action-index < n) (sym (length-map c.args.summand.now.label.actions.items plain_action)) inside) (action_in c.args.summand.now.label.actions.items c.loop-action.action-index c.action-item.result inside is (plain_action c.action-item.result))
          (map plain_way c.loop-action.found.items) (map plain_way c.in_ok-found.found.items) (c.loop-action.invariant.begun m h)
          (λ b k.
          subst (λ (xs : List Action). AreNext c.args.sig.now c.loop-action.pool.trees c.next_ways.new.pool.trees c.action-item.result.act b (map plain_action xs) m (map plain_way c.loop-action.found.items) (map plain_way c.in_ok-found.found.items)) c.as_slice-given.ensures.value
          (subst (λ (ws : List Way). AreNext c.args.sig.now c.loop-action.pool.trees c.next_ways.new.pool.trees c.action-item.result.act b (map plain_action c.as_slice-given.result.now) m (map plain_way ws) (map plain_way c.in_ok-found.found.items)) c.as_slice.ensures.value
          (c.in_ok-found.ensures.next b m (action_stays c.args.sig.now c.args.pool.now.trees c.loop-action.pool.trees c.loop-action.invariant.kept (plain_action c.action-item.result) b k)
          (subst (λ (xs : List Action). LabelIs c.args.sig.now c.loop-action.pool.trees (map plain_action xs) m) (sym c.as_slice-given.ensures.value) (label_stays c.args.sig.now c.args.pool.now.trees c.loop-action.pool.trees c.loop-action.invariant.kept (plain_label c.args.label.now) m h)))));
    }

pub returns-clause-ways : goal.returns-clause-ways
returns-clause-ways c = λ m h.
    let all : length c.args.summand.now.label.actions.items ≤ c.loop-action.action-index = subst (λ (xs : List Action). length xs ≤ c.loop-action.action-index) c.deref-action-items.ensures.value c.loop-action-test.false in
    begun_end c.args.sig.now c.args.pool.now.trees c.loop-action.pool.trees (summand_of (entries_of c.args.sig.now c.args.pool.now.trees) (plain_summand c.args.summand.now)) m c.args.number (plain_label c.args.summand.now.label) c.loop-action.action-index (map plain_way c.loop-action.found.items) c.requires.summand
    (subst (λ (n : ℕ). n ≤ c.loop-action.action-index) (sym (length-map c.args.summand.now.label.actions.items plain_action)) all) (c.loop-action.invariant.begun m h)
