use Rattle.std.proofs.Common.{List, map, sym, subst}
use Rattle.data_rewriter.proofs.Simple.{a_rewriter_stays}
use Rattle.process_terms.specs.SignatureEntries.{entries_of}
use Rattle.lps_core.specs.PlainLinears.{plain_linear, linear_of}
use Rattle.lps_core.proofs.PoolTrees.{extends_on}
use Rattle.lps_simulator.proofs.SessionLemmas.{linear_stays}
use Rattle.trace_replay.specs.declared.reading.Line.{Line}
use Rattle.trace_replay.specs.DecidedConditions.{setting}
use Rattle.trace_replay.specs.ReadingFaults.{IsTraceFault}
use Rattle.trace_replay.specs.ReadTraces.{plain_line}
use Rattle.trace_replay.specs.ReplayLaws.{meant}
use Rattle.trace_replay.specs.States.{meant_states, plain_states}
use Rattle.trace_replay.specs.Verdicts.{LinesAre}
use Rattle.trace_replay.proofs.ReadLemmas.{passed_on}
use Rattle.trace_replay.proofs.TracedLabels.{a_state_is_left, init_over, replays_from_start, start_is, start_stands}
use Rattle.trace_replay.proofs.TriedWays.{linear_kept}
use Rattle.trace_replay.proofs.traces.replay.Goals as goal

pub returns-in_err-lines-clause-kept : goal.returns-in_err-lines-clause-kept
returns-in_err-lines-clause-kept g c = c.trace_lines.ensures.kept

pub returns-in_err-lines-clause-fits : goal.returns-in_err-lines-clause-fits
returns-in_err-lines-clause-fits g c = λ own h. a_rewriter_stays c.args.rewriter.now c.args.sig.now own c.args.pool.now.trees c.trace_lines.new.pool.trees c.trace_lines.ensures.kept h

pub returns-in_err-lines-clause-bad_trace : goal.returns-in_err-lines-clause-bad_trace
returns-in_err-lines-clause-bad_trace g c = passed_on (IsTraceFault c.args.sig.now c.args.trace.now) c.from_residual.result c.in_err-lines.field-0.0 c.in_err-lines.ensures.fault c.from_residual.ensures.1

pub returns-in_err-states-clause-kept : goal.returns-in_err-states-clause-kept
returns-in_err-states-clause-kept g c = c.trace_lines.ensures.kept

pub returns-in_err-states-clause-fits : goal.returns-in_err-states-clause-fits
returns-in_err-states-clause-fits g c = λ own h. a_rewriter_stays c.args.rewriter.now c.args.sig.now own c.args.pool.now.trees c.trace_lines.new.pool.trees c.trace_lines.ensures.kept h

pub replay_lines-requires-clause-known : goal.replay_lines-requires-clause-known
replay_lines-requires-clause-known g c = let r = c.requires.known in (r.0, a_rewriter_stays c.args.rewriter.now c.args.sig.now r.0 c.args.pool.now.trees c.trace_lines.new.pool.trees c.trace_lines.ensures.kept r.1)

pub replay_lines-requires-clause-lin : goal.replay_lines-requires-clause-lin
replay_lines-requires-clause-lin g c = linear_stays c.args.sig.now c.signature_stands.ensures c.args.pool.now.trees c.trace_lines.new.pool.trees (plain_linear c.args.lin.now) c.trace_lines.ensures.kept c.requires.lin

pub replay_lines-requires-clause-lines : goal.replay_lines-requires-clause-lines
replay_lines-requires-clause-lines g c =
    let r = c.in_ok-lines.ensures.read in
    (r.entries, subst (λ (z : List Line). LinesAre c.args.sig.now c.trace_lines.new.pool.trees (map plain_line z) r.entries) (sym c.as_slice-2.ensures.value) r.lines)

pub replay_lines-requires-clause-states : goal.replay_lines-requires-clause-states
replay_lines-requires-clause-states g c =
    start_stands c.args.sig.now c.trace_lines.new.pool.trees c.as_slice.result.now c.args.lin.now.init.items (plain_states c.in_ok-states.states) c.as_slice.ensures.value (init_over c.args.sig.now c.signature_stands.ensures c.args.pool.now.trees c.trace_lines.new.pool.trees c.trace_lines.ensures.kept (plain_linear c.args.lin.now) c.requires.lin) c.in_ok-states.ensures

pub replay_lines-requires-clause-some : goal.replay_lines-requires-clause-some
replay_lines-requires-clause-some g c = a_state_is_left c.as_slice.result.now (plain_states c.in_ok-states.states) c.in_ok-states.ensures

pub returns-in_err-verdict-clause-kept : goal.returns-in_err-verdict-clause-kept
returns-in_err-verdict-clause-kept g c = extends_on c.args.pool.now.trees c.trace_lines.new.pool.trees c.replay_lines.new.pool.trees c.trace_lines.ensures.kept c.replay_lines.ensures.kept.pool

pub returns-in_err-verdict-clause-rules : goal.returns-in_err-verdict-clause-rules
returns-in_err-verdict-clause-rules g c = c.replay_lines.ensures.kept.rules

pub returns-in_err-verdict-clause-fits : goal.returns-in_err-verdict-clause-fits
returns-in_err-verdict-clause-fits g c = λ own h. c.replay_lines.ensures.kept.fits own (a_rewriter_stays c.args.rewriter.now c.args.sig.now own c.args.pool.now.trees c.trace_lines.new.pool.trees c.trace_lines.ensures.kept h)

pub returns-clause-kept : goal.returns-clause-kept
returns-clause-kept g c = extends_on c.args.pool.now.trees c.trace_lines.new.pool.trees c.replay_lines.new.pool.trees c.trace_lines.ensures.kept c.replay_lines.ensures.kept.pool

pub returns-clause-rules : goal.returns-clause-rules
returns-clause-rules g c = c.replay_lines.ensures.kept.rules

pub returns-clause-fits : goal.returns-clause-fits
returns-clause-fits g c = λ own h. c.replay_lines.ensures.kept.fits own (a_rewriter_stays c.args.rewriter.now c.args.sig.now own c.args.pool.now.trees c.trace_lines.new.pool.trees c.trace_lines.ensures.kept h)

pub returns-clause-verdict : goal.returns-clause-verdict
returns-clause-verdict g c = λ own h.
    let r = c.in_ok-lines.ensures.read in
    let l = plain_linear c.args.lin.now in
    let s = (setting c.args.sig.now own c.args.fuel c.args.bound) in
    record {
      entries = r.entries;
      is_trace = r.is_trace;
      closed = r.closed;
      replays = replays_from_start s (linear_of (entries_of c.args.sig.now c.trace_lines.new.pool.trees) l) (meant s c.args.pool.now.trees l) (meant_states c.args.sig.now c.trace_lines.new.pool.trees c.in_ok-states.states) _ r.entries c.in_ok-verdict.verdict
          (linear_kept c.args.sig.now c.signature_stands.ensures c.args.pool.now.trees c.trace_lines.new.pool.trees l c.trace_lines.ensures.kept c.requires.lin)
          (start_is c.args.sig.now c.signature_stands.ensures c.args.pool.now.trees c.trace_lines.new.pool.trees c.trace_lines.ensures.kept l c.requires.lin c.as_slice.result.now (plain_states c.in_ok-states.states) c.as_slice.ensures.value c.in_ok-states.ensures)
          (c.in_ok-verdict.ensures.verdict own r.entries (a_rewriter_stays c.args.rewriter.now c.args.sig.now own c.args.pool.now.trees c.trace_lines.new.pool.trees c.trace_lines.ensures.kept h)
          (subst (λ (z : List Line). LinesAre c.args.sig.now c.trace_lines.new.pool.trees (map plain_line z) r.entries) (sym c.as_slice-2.ensures.value) r.lines));
    }
