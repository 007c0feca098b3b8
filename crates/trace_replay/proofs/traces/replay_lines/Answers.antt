use Rattle.std.proofs.Common.{◌≡◌, ◌∙◌, ◌≤◌, ◌+◌, ◌∷◌, List, [], true, length, map, refl, sym, ap, subst, drop}
use Rattle.std.specs.Prelude.{IsTrue, false}
use Rattle.std.proofs.lemmas.List.{length-map}
use Rattle.process_terms.specs.PlainProcesses.{plain_label}
use Rattle.process_terms.specs.SignatureEntries.{entries_of}
use Rattle.lps_core.specs.PlainLinears.{plain_linear, linear_of}
use Rattle.lps_simulator.proofs.SessionLemmas.{linear_stays}
use Rattle.trace_replay.specs.declared.replaying.Verdict.{Verdict}
use Rattle.trace_replay.specs.DecidedConditions.{setting}
use Rattle.trace_replay.specs.ReadTraces.{plain_line}
use Rattle.trace_replay.specs.Replays.{Entry, Replays}
use Rattle.trace_replay.specs.States.{meant_state, meant_states, plain_states}
use Rattle.trace_replay.proofs.EqualityTerms.{label_stays}
use Rattle.trace_replay.proofs.Keepings.{keeps_itself, keeps_then, known_on}
use Rattle.trace_replay.proofs.TracedLabels.{all_lines, lead_kept, line_ends, line_has_entry, line_leads_on, no_entry_left, none_mapped}
use Rattle.trace_replay.proofs.TriedWays.{linear_kept}
use Rattle.trace_replay.proofs.traces.replay_lines.Goals as goal

pub loop-line-init : goal.loop-line-init
loop-line-init g c = record { kept = keeps_itself c.args.sig.now c.args.pool.now.trees c.args.rewriter.now; states = c.requires.states; some = c.requires.some; left = λ own es verdict h are r. r }

pub lead-requires-clause-known : goal.lead-requires-clause-known
lead-requires-clause-known g c = known_on c.args.sig.now c.args.pool.now.trees c.loop-line.pool.trees c.args.rewriter.now c.loop-line.rewriter c.loop-line.invariant.kept c.requires.known

pub lead-requires-clause-rules : goal.lead-requires-clause-rules
lead-requires-clause-rules g c = rw c.loop-line.invariant.kept.rules c.requires.rules

pub lead-requires-clause-lin : goal.lead-requires-clause-lin
lead-requires-clause-lin g c = linear_stays c.args.sig.now c.signature_stands.ensures c.args.pool.now.trees c.loop-line.pool.trees (plain_linear c.args.lin.now) c.loop-line.invariant.kept.pool c.requires.lin

pub lead-requires-clause-label : goal.lead-requires-clause-label
lead-requires-clause-label g c =
    let es = c.requires.lines.0 in
    let are = c.requires.lines.1 in
    let e = line_has_entry c.args.sig.now c.args.pool.now.trees c.args.lines.now es c.loop-line.line-index c.line-item.result are c.loop-line-test.true c.line-item.is in
    (e.entry.label, label_stays c.args.sig.now c.args.pool.now.trees c.loop-line.pool.trees c.loop-line.invariant.kept.pool (plain_label c.line-item.result.label) e.entry.label e.line.label)

pub returns-in_err-is_open-clause-kept : goal.returns-in_err-is_open-clause-kept
returns-in_err-is_open-clause-kept g c = keeps_then c.args.sig.now c.args.pool.now.trees c.loop-line.pool.trees c.lead.new.pool.trees c.args.rewriter.now c.loop-line.rewriter c.lead.new.rewriter c.loop-line.invariant.kept c.lead.ensures.kept

pub returns-then-is_empty-clause-kept : goal.returns-then-is_empty-clause-kept
returns-then-is_empty-clause-kept g c = keeps_then c.args.sig.now c.args.pool.now.trees c.loop-line.pool.trees c.lead.new.pool.trees c.args.rewriter.now c.loop-line.rewriter c.lead.new.rewriter c.loop-line.invariant.kept c.lead.ensures.kept

pub returns-then-is_empty-clause-verdict : goal.returns-then-is_empty-clause-verdict
returns-then-is_empty-clause-verdict g c = λ own es h are.
    let e = line_has_entry c.args.sig.now c.args.pool.now.trees c.args.lines.now es c.loop-line.line-index c.line-item.result are c.loop-line-test.true c.line-item.is in
    let none : (meant_states c.args.sig.now c.lead.new.pool.trees c.lead.new.states) ≡ [] = ap (map (meant_state c.args.sig.now c.lead.new.pool.trees)) (c.is_empty.ensures.0 c.if-is_empty.true) in
    c.loop-line.invariant.left own es c.verdict_at.result h are
    (subst (λ (z : List Entry). Replays (setting c.args.sig.now own c.args.fuel c.args.bound) (linear_of (entries_of c.args.sig.now c.args.pool.now.trees) (plain_linear c.args.lin.now)) (meant_states c.args.sig.now c.loop-line.pool.trees c.loop-line.states) c.loop-line.doubt z c.verdict_at.result) (sym e.here)
    (subst (λ (v : Verdict). Replays (setting c.args.sig.now own c.args.fuel c.args.bound) (linear_of (entries_of c.args.sig.now c.args.pool.now.trees) (plain_linear c.args.lin.now)) (meant_states c.args.sig.now c.loop-line.pool.trees c.loop-line.states) c.loop-line.doubt (e.entry ∷ drop (c.loop-line.line-index + 1) es) v) (sym c.verdict_at.ensures)
    (line_ends (setting c.args.sig.now own c.args.fuel c.args.bound) (linear_of (entries_of c.args.sig.now c.args.pool.now.trees) (plain_linear c.args.lin.now)) (meant_states c.args.sig.now c.loop-line.pool.trees c.loop-line.states) (meant_states c.args.sig.now c.lead.new.pool.trees c.lead.new.states) c.loop-line.doubt c.in_ok-is_open.is_open c.either-doubt.result e.entry (drop (c.loop-line.line-index + 1) es) c.line-item.result.number
    (lead_kept (setting c.args.sig.now own c.args.fuel c.args.bound) (linear_of (entries_of c.args.sig.now c.loop-line.pool.trees) (plain_linear c.args.lin.now)) (linear_of (entries_of c.args.sig.now c.args.pool.now.trees) (plain_linear c.args.lin.now)) e.entry.label (meant_states c.args.sig.now c.loop-line.pool.trees c.loop-line.states) (meant_states c.args.sig.now c.lead.new.pool.trees c.lead.new.states) c.in_ok-is_open.is_open (linear_kept c.args.sig.now c.signature_stands.ensures c.args.pool.now.trees c.loop-line.pool.trees (plain_linear c.args.lin.now) c.loop-line.invariant.kept.pool c.requires.lin)
    (c.in_ok-is_open.ensures.leads own e.entry.label (c.loop-line.invariant.kept.fits own h) (label_stays c.args.sig.now c.args.pool.now.trees c.loop-line.pool.trees c.loop-line.invariant.kept.pool (plain_label c.line-item.result.label) e.entry.label e.line.label) e.line.closed))
    none c.either-doubt.ensures e.line.number)))

pub loop-line-preserved : goal.loop-line-preserved
loop-line-preserved g c = record {
  kept = keeps_then c.args.sig.now c.args.pool.now.trees c.loop-line.pool.trees c.lead.new.pool.trees c.args.rewriter.now c.loop-line.rewriter c.lead.new.rewriter c.loop-line.invariant.kept c.lead.ensures.kept;
  states = c.in_ok-is_open.ensures.states;
  some = λ none. let yes : IsTrue c.is_empty.result = c.is_empty.ensures.1 none in absurd (cc (yes, c.if-is_empty.false));
  left = λ own es verdict h are r.
      let e = line_has_entry c.args.sig.now c.args.pool.now.trees c.args.lines.now es c.loop-line.line-index c.line-item.result are c.loop-line-test.true c.line-item.is in
      c.loop-line.invariant.left own es verdict h are
      (subst (λ (z : List Entry). Replays (setting c.args.sig.now own c.args.fuel c.args.bound) (linear_of (entries_of c.args.sig.now c.args.pool.now.trees) (plain_linear c.args.lin.now)) (meant_states c.args.sig.now c.loop-line.pool.trees c.loop-line.states) c.loop-line.doubt z verdict) (sym e.here)
      (line_leads_on (setting c.args.sig.now own c.args.fuel c.args.bound) (linear_of (entries_of c.args.sig.now c.args.pool.now.trees) (plain_linear c.args.lin.now)) (meant_states c.args.sig.now c.loop-line.pool.trees c.loop-line.states) (meant_states c.args.sig.now c.lead.new.pool.trees c.lead.new.states) c.loop-line.doubt c.in_ok-is_open.is_open c.either-doubt.result e.entry (drop (c.loop-line.line-index + 1) es) verdict
      (lead_kept (setting c.args.sig.now own c.args.fuel c.args.bound) (linear_of (entries_of c.args.sig.now c.loop-line.pool.trees) (plain_linear c.args.lin.now)) (linear_of (entries_of c.args.sig.now c.args.pool.now.trees) (plain_linear c.args.lin.now)) e.entry.label (meant_states c.args.sig.now c.loop-line.pool.trees c.loop-line.states) (meant_states c.args.sig.now c.lead.new.pool.trees c.lead.new.states) c.in_ok-is_open.is_open (linear_kept c.args.sig.now c.signature_stands.ensures c.args.pool.now.trees c.loop-line.pool.trees (plain_linear c.args.lin.now) c.loop-line.invariant.kept.pool c.requires.lin)
      (c.in_ok-is_open.ensures.leads own e.entry.label (c.loop-line.invariant.kept.fits own h) (label_stays c.args.sig.now c.args.pool.now.trees c.loop-line.pool.trees c.loop-line.invariant.kept.pool (plain_label c.line-item.result.label) e.entry.label e.line.label) e.line.closed))
      (λ none. let yes : IsTrue c.is_empty.result = c.is_empty.ensures.1 (none_mapped (meant_state c.args.sig.now c.lead.new.pool.trees) (plain_states c.lead.new.states) none) in absurd (cc (yes, c.if-is_empty.false)))
      c.either-doubt.ensures r));
}

pub returns-clause-verdict : goal.returns-clause-verdict
returns-clause-verdict g c = λ own es h are.
    let left : drop c.loop-line.line-index es ≡ [] = no_entry_left c.args.sig.now c.args.pool.now.trees (map plain_line c.args.lines.now) es c.loop-line.line-index are (subst (λ n. n ≤ c.loop-line.line-index) (sym (length-map c.args.lines.now plain_line)) c.loop-line-test.false) in
    c.loop-line.invariant.left own es _ h are
    (all_lines (setting c.args.sig.now own c.args.fuel c.args.bound) (linear_of (entries_of c.args.sig.now c.args.pool.now.trees) (plain_linear c.args.lin.now)) (meant_states c.args.sig.now c.loop-line.pool.trees c.loop-line.states) c.loop-line.doubt (drop c.loop-line.line-index es) (λ none. c.loop-line.invariant.some (none_mapped (meant_state c.args.sig.now c.loop-line.pool.trees) (plain_states c.loop-line.states) none)) left)
