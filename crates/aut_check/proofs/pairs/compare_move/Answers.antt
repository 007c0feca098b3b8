use Rattle.std.proofs.Common.{◌<◌, ℕ, List, [], arith, get_or, length, subst, sym, take}
use Rattle.std.proofs.lemmas.List.{take_all, take_more}
use Rattle.std.proofs.lemmas.List.Elements.{All-get_or}
use Rattle.lps_core.specs.PlainLinears.{plain_linear, plain_next}
use Rattle.lps_simulator.specs.OptionsInCode.{meant_move, plain_move}
use Rattle.lps_simulator.proofs.FittingSummands.{move_stays}
use Rattle.lps_simulator.proofs.SessionLemmas.{linear_stays, next_state_stays}
use Rattle.trace_replay.specs.declared.deciding.Answer.{Answer as CodeAnswer}
use Rattle.trace_replay.proofs.Keepings.{keeps_itself, keeps_then, known_on}
use Rattle.aut_check.specs.Comparing.{setting, IsMoveRow}
use Rattle.aut_check.specs.PlainSystems.{plain_edge, plain_system}
use Rattle.aut_check.specs.Tables.{answers_of}
use Rattle.aut_check.specs.Verdicts.{sorts_in}
use Rattle.aut_check.proofs.ComparedPairs.{edge_turn}
use Rattle.aut_check.proofs.JudgedStates.{states_long}
use Rattle.aut_check.proofs.RunningStates.{state_read}
use Rattle.aut_check.proofs.SettledStates.{edge_stays}
use Rattle.aut_check.proofs.SortedEdges.{edge_here, edge_read, state_here}
use Rattle.aut_check.proofs.pairs.compare_move.Goals as goal

pub loop-number-init : goal.loop-number-init
loop-number-init g c = record {
  kept = keeps_itself c.args.sig.now c.args.pool.now.trees c.args.rewriter.now;
  so_far = λ own h.
      subst (λ (z : List CodeAnswer). IsMoveRow (setting c.args.sig.now own c.args.fuel) (sorts_in (setting c.args.sig.now own c.args.fuel) c.args.pool.now.trees (plain_linear c.args.lin.now)) c.args.pool.now.trees (plain_system c.args.lts.now) [] (meant_move c.args.sig.now c.args.pool.now.trees (plain_move c.args.step.now)) (answers_of z)) (sym c.new-row.ensures.items) tt;
}

pub index-edge-requires : goal.index-edge-requires
index-edge-requires g c = let r = (All-get_or (λ (k : ℕ). k < length c.args.lts.now.edges.items) c.args.edges.now c.loop-number.number-index 0 c.loop-number-test.true c.requires.edges) in omega (arith, r, c.args.lts.now.edges.ok.0)

pub index-state-requires : goal.index-state-requires
index-state-requires g c = let r = (subst (λ (n : ℕ). c.index-edge.result.now.to < n) (states_long c.args.lts.now.states.items) (edge_here c.args.sig.now c.args.pool.now.trees c.args.lin.now.params.items c.args.lts.now c.requires.system (get_or c.args.edges.now c.loop-number.number-index 0) c.index-edge.result.now (All-get_or (λ (k : ℕ). k < length c.args.lts.now.edges.items) c.args.edges.now c.loop-number.number-index 0 c.loop-number-test.true c.requires.edges) c.index-edge.ensures).to) in omega (arith, r, c.args.lts.now.states.ok.0)

pub compare_pair-requires-clause-known : goal.compare_pair-requires-clause-known
compare_pair-requires-clause-known g c = known_on c.args.sig.now c.args.pool.now.trees c.loop-number.pool.trees c.args.rewriter.now c.loop-number.rewriter c.loop-number.invariant.kept c.requires.known

pub compare_pair-requires-clause-rules : goal.compare_pair-requires-clause-rules
compare_pair-requires-clause-rules g c = rw c.loop-number.invariant.kept.rules c.requires.rules

pub compare_pair-requires-clause-lin : goal.compare_pair-requires-clause-lin
compare_pair-requires-clause-lin g c = linear_stays c.args.sig.now c.signature_stands.ensures c.args.pool.now.trees c.loop-number.pool.trees (plain_linear c.args.lin.now) c.loop-number.invariant.kept.pool c.requires.lin

pub compare_pair-requires-clause-step : goal.compare_pair-requires-clause-step
compare_pair-requires-clause-step g c = move_stays c.args.sig.now c.args.pool.now.trees c.loop-number.pool.trees c.loop-number.invariant.kept.pool c.args.lin.now.params.items (plain_move c.args.step.now) c.requires.step

pub compare_pair-requires-clause-edge : goal.compare_pair-requires-clause-edge
compare_pair-requires-clause-edge g c = (length (plain_system c.args.lts.now).states, edge_stays c.args.sig.now c.signature_stands.ensures c.args.pool.now.trees c.loop-number.pool.trees c.loop-number.invariant.kept.pool c.args.lin.now.params.items (length (plain_system c.args.lts.now).states) (plain_edge c.index-edge.result.now) (edge_here c.args.sig.now c.args.pool.now.trees c.args.lin.now.params.items c.args.lts.now c.requires.system (get_or c.args.edges.now c.loop-number.number-index 0) c.index-edge.result.now (All-get_or (λ (k : ℕ). k < length c.args.lts.now.edges.items) c.args.edges.now c.loop-number.number-index 0 c.loop-number-test.true c.requires.edges) c.index-edge.ensures))

pub compare_pair-requires-clause-state : goal.compare_pair-requires-clause-state
compare_pair-requires-clause-state g c =
    next_state_stays c.args.sig.now c.args.pool.now.trees c.loop-number.pool.trees c.args.lin.now.params.items (plain_next c.index-state.result.now) c.loop-number.invariant.kept.pool
    (state_here c.args.sig.now c.args.pool.now.trees c.args.lin.now.params.items c.args.lts.now c.requires.system c.index-edge.result.now.to c.index-state.result.now (subst (λ (n : ℕ). c.index-edge.result.now.to < n) (states_long c.args.lts.now.states.items) (edge_here c.args.sig.now c.args.pool.now.trees c.args.lin.now.params.items c.args.lts.now c.requires.system (get_or c.args.edges.now c.loop-number.number-index 0) c.index-edge.result.now (All-get_or (λ (k : ℕ). k < length c.args.lts.now.edges.items) c.args.edges.now c.loop-number.number-index 0 c.loop-number-test.true c.requires.edges) c.index-edge.ensures).to) c.index-state.ensures)

pub returns-in_err-compare_pair-clause-kept : goal.returns-in_err-compare_pair-clause-kept
returns-in_err-compare_pair-clause-kept g c = keeps_then c.args.sig.now c.args.pool.now.trees c.loop-number.pool.trees c.compare_pair.new.pool.trees c.args.rewriter.now c.loop-number.rewriter c.compare_pair.new.rewriter c.loop-number.invariant.kept c.compare_pair.ensures.kept

pub returns-in_err-push-clause-kept : goal.returns-in_err-push-clause-kept
returns-in_err-push-clause-kept g c = keeps_then c.args.sig.now c.args.pool.now.trees c.loop-number.pool.trees c.compare_pair.new.pool.trees c.args.rewriter.now c.loop-number.rewriter c.compare_pair.new.rewriter c.loop-number.invariant.kept c.compare_pair.ensures.kept

pub loop-number-preserved : goal.loop-number-preserved
loop-number-preserved g c = record {
  kept = keeps_then c.args.sig.now c.args.pool.now.trees c.loop-number.pool.trees c.compare_pair.new.pool.trees c.args.rewriter.now c.loop-number.rewriter c.compare_pair.new.rewriter c.loop-number.invariant.kept c.compare_pair.ensures.kept;
  so_far = λ own h.
      edge_turn c.args.sig.now c.signature_stands.ensures own c.args.fuel c.args.pool.now.trees c.loop-number.pool.trees c.loop-number.invariant.kept.pool (plain_linear c.args.lin.now) c.requires.lin (plain_system c.args.lts.now) c.requires.system (plain_move c.args.step.now) c.requires.step
      (take c.loop-number.number-index c.args.edges.now) _ (get_or c.args.edges.now c.loop-number.number-index 0) (take_more c.args.edges.now c.loop-number.number-index 0 c.loop-number-test.true) (plain_edge c.index-edge.result.now) (plain_next c.index-state.result.now)
      (edge_read c.args.lts.now.edges.items (get_or c.args.edges.now c.loop-number.number-index 0) c.index-edge.result.now (All-get_or (λ (k : ℕ). k < length c.args.lts.now.edges.items) c.args.edges.now c.loop-number.number-index 0 c.loop-number-test.true c.requires.edges) c.index-edge.ensures) (state_read c.args.lts.now.states.items c.index-edge.result.now.to c.index-state.result.now (subst (λ (n : ℕ). c.index-edge.result.now.to < n) (states_long c.args.lts.now.states.items) (edge_here c.args.sig.now c.args.pool.now.trees c.args.lin.now.params.items c.args.lts.now c.requires.system (get_or c.args.edges.now c.loop-number.number-index 0) c.index-edge.result.now (All-get_or (λ (k : ℕ). k < length c.args.lts.now.edges.items) c.args.edges.now c.loop-number.number-index 0 c.loop-number-test.true c.requires.edges) c.index-edge.ensures).to) c.index-state.ensures)
      c.loop-number.row.items c.push.new.self.items c.in_ok-compare_pair.field-0 c.in_ok-push.ensures.items (c.loop-number.invariant.so_far own h) (c.in_ok-compare_pair.ensures.pair own (c.loop-number.invariant.kept.fits own h));
}

pub returns-clause-kept : goal.returns-clause-kept
returns-clause-kept g c = c.loop-number.invariant.kept

pub returns-clause-row : goal.returns-clause-row
returns-clause-row g c = λ own h.
    subst (λ (z : List ℕ). IsMoveRow (setting c.args.sig.now own c.args.fuel) (sorts_in (setting c.args.sig.now own c.args.fuel) c.args.pool.now.trees (plain_linear c.args.lin.now)) c.args.pool.now.trees (plain_system c.args.lts.now) z (meant_move c.args.sig.now c.args.pool.now.trees (plain_move c.args.step.now)) (answers_of c.loop-number.row.items))
    (take_all c.loop-number.number-index c.args.edges.now c.loop-number-test.false) (c.loop-number.invariant.so_far own h)
