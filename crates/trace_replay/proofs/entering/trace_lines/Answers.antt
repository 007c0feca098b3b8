use Rattle.std.proofs.Common.{List, [], map, refl, sym, subst}
use Rattle.std.specs.List.{All}
use Rattle.std.proofs.lemmas.List.Elements.{All-nil}
use Rattle.data_theory.specs.IdTerms.{IsTreeWithin}
use Rattle.trace_replay.specs.declared.reading.Line.{Line}
use Rattle.trace_replay.specs.DecidedConditions.{setting}
use Rattle.trace_replay.specs.ReadingFaults.{IsTraceFault}
use Rattle.trace_replay.specs.ReadTraces.{plain_line}
use Rattle.trace_replay.specs.Verdicts.{LinesAre}
use Rattle.trace_replay.proofs.ReadLemmas.{passed_on}
use Rattle.trace_replay.proofs.TracedLabels.{all_closed, lines_are}
use Rattle.trace_replay.proofs.entering.trace_lines.Goals as goal

pub read_trace-requires : goal.read_trace-requires
read_trace-requires c = subst (All (IsTreeWithin c.args.sig.now)) (sym c.in_ok-own.ensures.empty) (All-nil (IsTreeWithin c.args.sig.now))

pub returns-in_err-read-clause-fault : goal.returns-in_err-read-clause-fault
returns-in_err-read-clause-fault c = passed_on (IsTraceFault c.args.sig.now c.args.trace.now) c.from_residual-in_err-read.result c.in_err-read.field-0.0 c.in_err-read.ensures.fault c.from_residual-in_err-read.ensures.1

pub enter_lines-requires : goal.enter_lines-requires
enter_lines-requires c =
    let r = c.in_ok-read.ensures.read in (
      c.args.sig.now,
      r.entries,
      subst (λ (z : List Line). LinesAre c.args.sig.now c.read_trace.new.pool.trees (map plain_line z) r.entries) (sym c.as_slice.ensures.value) (lines_are c.args.sig.now c.read_trace.new.pool.trees c.in_ok-read.ensures.trees r.are),
    )

pub returns-clause-read : goal.returns-clause-read
returns-clause-read c =
    let r = c.in_ok-read.ensures.read in
    record {
      entries = r.entries;
      is_trace = r.is_trace;
      closed = all_closed (setting c.args.sig.now [] 0 0) refl r.are;
      lines = c.in_ok-lines.ensures.lines c.args.sig.now r.entries
          (subst (λ (z : List Line). LinesAre c.args.sig.now c.read_trace.new.pool.trees (map plain_line z) r.entries) (sym c.as_slice.ensures.value) (lines_are c.args.sig.now c.read_trace.new.pool.trees c.in_ok-read.ensures.trees r.are));
    }
