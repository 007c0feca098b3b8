use Rattle.std.proofs.Common.{◌≡◌, ◌∙◌, ◌≤◌, List, [], false, length, map, refl, sym, ap, subst, take}
use Rattle.std.specs.Prelude.{Option}
use Rattle.std.specs.List.{All}
use Rattle.std.proofs.lemmas.List.{length-map, take_all}
use Rattle.std.proofs.lemmas.List.Elements.{All-nil}
use Rattle.data_theory.specs.declared.ids.TermId.{TermId}
use Rattle.data_rewriter.specs.Standing.{term_at, IsTerm}
use Rattle.process_terms.specs.SignatureEntries.{entries_of}
use Rattle.lps_core.specs.PlainLinears.{plain_linear, linear_of}
use Rattle.lps_simulator.proofs.Bindings.{terms_stay}
use Rattle.lps_simulator.proofs.SessionLemmas.{linear_stays}
use Rattle.trace_replay.specs.declared.ways.Way.{Way}
use Rattle.trace_replay.specs.Attempts.{AreTried}
use Rattle.trace_replay.specs.DecidedConditions.{setting}
use Rattle.trace_replay.specs.States.{meant_state, meant_states, running, StateStands}
use Rattle.trace_replay.specs.Ways.{plain_way, OfWays, WayStands}
use Rattle.trace_replay.proofs.Keepings.{keeps_grown, keeps_itself, keeps_then, known_on}
use Rattle.trace_replay.proofs.TriedWays.{InRunning, label_done, running_none, state_stands, state_turn, ways_stand}
use Rattle.trace_replay.proofs.leading.lead.Goals as goal

pub returns-in_err-ways-clause-kept : goal.returns-in_err-ways-clause-kept
returns-in_err-ways-clause-kept g c = keeps_grown c.args.sig.now c.args.pool.now.trees c.ways.new.pool.trees c.args.rewriter.now c.ways.ensures.kept

pub loop-number-init : goal.loop-number-init
loop-number-init g c = record {
  kept = keeps_itself c.args.sig.now c.ways.new.pool.trees c.args.rewriter.now;
  states = subst (λ (os : List (Option (List TermId))). All (StateStands c.args.sig.now c.ways.new.pool.trees) os) (sym c.no_states-to.ensures) (All-nil (StateStands c.args.sig.now c.ways.new.pool.trees));
  tried = λ own h.
      subst (λ (os : List (Option (List TermId))). AreTried (setting c.args.sig.now own c.args.fuel c.args.bound) (InRunning c.args.sig.now c.ways.new.pool.trees (setting c.args.sig.now own c.args.fuel c.args.bound) (linear_of (entries_of c.args.sig.now c.args.pool.now.trees) (plain_linear c.args.lin.now)) [] (map plain_way c.in_ok-ways.ways.items)) [] (map (meant_state c.args.sig.now c.ways.new.pool.trees) os) false) (sym c.no_states-to.ensures)
      (running_none c.args.sig.now c.ways.new.pool.trees (setting c.args.sig.now own c.args.fuel c.args.bound) (linear_of (entries_of c.args.sig.now c.args.pool.now.trees) (plain_linear c.args.lin.now)) (map plain_way c.in_ok-ways.ways.items) []);
}

pub try_ways-requires-clause-known : goal.try_ways-requires-clause-known
try_ways-requires-clause-known g c = known_on c.args.sig.now c.args.pool.now.trees c.loop-number.pool.trees c.args.rewriter.now c.loop-number.rewriter (keeps_then c.args.sig.now c.args.pool.now.trees c.ways.new.pool.trees c.loop-number.pool.trees c.args.rewriter.now c.args.rewriter.now c.loop-number.rewriter (keeps_grown c.args.sig.now c.args.pool.now.trees c.ways.new.pool.trees c.args.rewriter.now c.ways.ensures.kept) c.loop-number.invariant.kept) c.requires.known

pub try_ways-requires-clause-rules : goal.try_ways-requires-clause-rules
try_ways-requires-clause-rules g c = rw c.loop-number.invariant.kept.rules c.requires.rules

pub try_ways-requires-clause-lin : goal.try_ways-requires-clause-lin
try_ways-requires-clause-lin g c = linear_stays c.args.sig.now c.signature_stands.ensures c.args.pool.now.trees c.loop-number.pool.trees (plain_linear c.args.lin.now) (keeps_then c.args.sig.now c.args.pool.now.trees c.ways.new.pool.trees c.loop-number.pool.trees c.args.rewriter.now c.args.rewriter.now c.loop-number.rewriter (keeps_grown c.args.sig.now c.args.pool.now.trees c.ways.new.pool.trees c.args.rewriter.now c.ways.ensures.kept) c.loop-number.invariant.kept).pool c.requires.lin

pub try_ways-requires-clause-state : goal.try_ways-requires-clause-state
try_ways-requires-clause-state g c =
    subst (λ (ids : List TermId). All (IsTerm c.args.sig.now c.loop-number.pool.trees) ids) (sym c.as_slice-state.ensures.value)
    (terms_stay c.args.sig.now c.args.pool.now.trees c.loop-number.pool.trees c.index.result.now.items (keeps_then c.args.sig.now c.args.pool.now.trees c.ways.new.pool.trees c.loop-number.pool.trees c.args.rewriter.now c.args.rewriter.now c.loop-number.rewriter (keeps_grown c.args.sig.now c.args.pool.now.trees c.ways.new.pool.trees c.args.rewriter.now c.ways.ensures.kept) c.loop-number.invariant.kept).pool (state_stands c.args.sig.now c.args.pool.now.trees c.args.states.now c.loop-number.number c.index.result.now c.index.ensures c.requires.states))

pub try_ways-requires-clause-ways : goal.try_ways-requires-clause-ways
try_ways-requires-clause-ways g c =
    let r = c.requires.label in
    subst (λ (ws : List Way). All (WayStands c.args.sig.now c.loop-number.pool.trees (length c.args.lin.now.summands.items)) (map plain_way ws)) (sym c.as_slice.ensures.value)
    (ways_stand c.args.sig.now c.ways.new.pool.trees c.loop-number.pool.trees c.loop-number.invariant.kept.pool (linear_of (entries_of c.args.sig.now c.args.pool.now.trees) (plain_linear c.args.lin.now)) r.0 (length c.args.lin.now.summands.items) (map plain_way c.in_ok-ways.ways.items) (c.in_ok-ways.ensures.ways r.0 r.1))

pub returns-in_err-is_open-clause-kept : goal.returns-in_err-is_open-clause-kept
returns-in_err-is_open-clause-kept g c = keeps_then c.args.sig.now c.args.pool.now.trees c.loop-number.pool.trees c.try_ways.new.pool.trees c.args.rewriter.now c.loop-number.rewriter c.try_ways.new.rewriter (keeps_then c.args.sig.now c.args.pool.now.trees c.ways.new.pool.trees c.loop-number.pool.trees c.args.rewriter.now c.args.rewriter.now c.loop-number.rewriter (keeps_grown c.args.sig.now c.args.pool.now.trees c.ways.new.pool.trees c.args.rewriter.now c.ways.ensures.kept) c.loop-number.invariant.kept) c.try_ways.ensures.kept

pub loop-number-preserved : goal.loop-number-preserved
loop-number-preserved g c = record {
  kept = keeps_then c.args.sig.now c.ways.new.pool.trees c.loop-number.pool.trees c.try_ways.new.pool.trees c.args.rewriter.now c.loop-number.rewriter c.try_ways.new.rewriter c.loop-number.invariant.kept c.try_ways.ensures.kept;
  states = c.in_ok-is_open.ensures.states;
  tried = λ own h.
      let r = c.requires.label in
      state_turn c.args.sig.now c.signature_stands.ensures own c.args.fuel c.args.bound c.args.pool.now.trees c.ways.new.pool.trees c.loop-number.pool.trees c.ways.ensures.kept c.loop-number.invariant.kept.pool (plain_linear c.args.lin.now) c.requires.lin c.args.states.now c.loop-number.number c.index.result.now c.index.ensures c.requires.states
      c.as_slice-state.result.now c.as_slice-state.ensures.value (map plain_way c.in_ok-ways.ways.items) (c.in_ok-ways.ensures.ways r.0 r.1).over [] (meant_states c.args.sig.now c.loop-number.pool.trees c.loop-number.to) (meant_states c.args.sig.now c.try_ways.new.pool.trees c.try_ways.new.to)
      c.loop-number.doubt c.in_ok-is_open.is_open c.either-doubt.result c.either-doubt.ensures (c.loop-number.invariant.tried own h)
      (subst (λ (ws : List Way). AreTried (setting c.args.sig.now own c.args.fuel c.args.bound) (OfWays c.args.sig.now c.loop-number.pool.trees (setting c.args.sig.now own c.args.fuel c.args.bound) (linear_of (entries_of c.args.sig.now c.loop-number.pool.trees) (plain_linear c.args.lin.now)) (map (term_at c.args.sig.now c.loop-number.pool.trees) c.as_slice-state.result.now) (map plain_way ws))
      (meant_states c.args.sig.now c.loop-number.pool.trees c.loop-number.to) (meant_states c.args.sig.now c.try_ways.new.pool.trees c.try_ways.new.to) c.in_ok-is_open.is_open) c.as_slice.ensures.value
      (c.in_ok-is_open.ensures.tried own ((keeps_then c.args.sig.now c.args.pool.now.trees c.ways.new.pool.trees c.loop-number.pool.trees c.args.rewriter.now c.args.rewriter.now c.loop-number.rewriter (keeps_grown c.args.sig.now c.args.pool.now.trees c.ways.new.pool.trees c.args.rewriter.now c.ways.ensures.kept) c.loop-number.invariant.kept).fits own h)));
}

pub returns-clause-kept : goal.returns-clause-kept
returns-clause-kept g c = keeps_then c.args.sig.now c.args.pool.now.trees c.ways.new.pool.trees c.loop-number.pool.trees c.args.rewriter.now c.args.rewriter.now c.loop-number.rewriter (keeps_grown c.args.sig.now c.args.pool.now.trees c.ways.new.pool.trees c.args.rewriter.now c.ways.ensures.kept) c.loop-number.invariant.kept

pub returns-clause-leads : goal.returns-clause-leads
returns-clause-leads g c = λ own m h label closed.
    let all : length (running c.args.states.now) ≤ c.loop-number.number =
    subst (λ n. n ≤ c.loop-number.number) (c.len-number-end.ensures.len ∙ sym (length-map c.args.states.now.running.keys (λ v. v.items))) c.loop-number-test.false in
    label_done c.args.sig.now own c.args.fuel c.args.bound c.args.pool.now.trees c.ways.new.pool.trees (plain_linear c.args.lin.now) c.args.lin.now.summands.items refl m closed c.args.states.now (map plain_way c.in_ok-ways.ways.items) (c.in_ok-ways.ensures.ways m label)
    (meant_states c.args.sig.now c.loop-number.pool.trees c.loop-number.to) c.loop-number.doubt
    (subst (λ (z : List (List TermId)). AreTried (setting c.args.sig.now own c.args.fuel c.args.bound) (InRunning c.args.sig.now c.ways.new.pool.trees (setting c.args.sig.now own c.args.fuel c.args.bound) (linear_of (entries_of c.args.sig.now c.args.pool.now.trees) (plain_linear c.args.lin.now)) (map (map (term_at c.args.sig.now c.args.pool.now.trees)) z) (map plain_way c.in_ok-ways.ways.items)) [] (meant_states c.args.sig.now c.loop-number.pool.trees c.loop-number.to) c.loop-number.doubt)
    (take_all c.loop-number.number (running c.args.states.now) all) (c.loop-number.invariant.tried own h))
