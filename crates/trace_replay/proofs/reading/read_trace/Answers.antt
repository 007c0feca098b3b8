use Rattle.std.proofs.Common.{◌≡◌, sym, subst, ap, ◌∙◌, arith, rules, map, length}
use Rattle.std.proofs.lemmas.Bool.Decides.{nat_tests}
use Rattle.std.proofs.lemmas.Grind.{common_steps}
use Rattle.std.specs.Prelude.{List}
use Rattle.sort_checker.proofs.Adding.{goes_nowhere, goes_then}
use Rattle.trace_replay.specs.declared.reading.Line.{Line}
use Rattle.trace_replay.specs.Lines.{lines_of}
use Rattle.trace_replay.specs.ReadTraces.{plain_line}
use Rattle.trace_replay.specs.ReadingFaults.{IsTraceFault}
use Rattle.trace_replay.proofs.ReadLemmas.{ReadsTo, nothing_read, IsPushed, pushed_some, pushed_none, read_turn, trace_read, trace_fault, passed_on}
use Rattle.trace_replay.proofs.reading.read_trace.Goals as goal
use Rattle.trace_replay.proofs.reading.read_trace.Goals.{in-Some+in_ok-push, in_default}

pub loop-rest-init : goal.loop-rest-init
loop-rest-init c = record {
  kept = goes_nowhere c.args.sig.now c.args.pool.now;
  trees = c.requires;
  read = subst (λ (xs : List Line). ReadsTo c.args.sig.now c.args.pool.now.trees (lines_of c.args.trace.now) 1 (lines_of c.args.trace.now) (map plain_line xs)) (sym c.new-lines.ensures.items) nothing_read;
  few = omega arith;
}

pub returns-in_err-found-clause-fault : goal.returns-in_err-found-clause-fault
returns-in_err-found-clause-fault c =
    passed_on (IsTraceFault c.args.sig.now c.args.trace.now) c.from_residual.result c.in_err-found.field-0.0
    (trace_fault c.args.sig.now c.loop-rest.pool.trees c.args.trace.now c.loop-rest.number (lines_of c.loop-rest.rest.now) c.split_line.result.0.now (lines_of c.split_line.result.1.now) (map plain_line c.loop-rest.lines.items)
    c.in_err-found.field-0.0 c.loop-rest.invariant.read c.split_line.ensures.lines c.in_err-found.ensures.fault)
    c.from_residual.ensures.1

pub loop-rest-preserved : goal.loop-rest-preserved
loop-rest-preserved c =
    let pushed : IsPushed c.loop-rest.lines.items c.in_ok-found.field-0 c.match-branch-2.lines.items =
    elim c.match-branch-2.branch [
      | in-Some+in_ok-push w ↦ pushed_some c.in_ok-found.field-0 w.in-Some.found c.loop-rest.lines.items c.match-branch-2.lines.items w.in-Some.is (ap (λ v. v.items) w.lines-is ∙ w.in_ok-push.ensures.items)
      | in_default w ↦ pushed_none c.in_ok-found.field-0 c.loop-rest.lines.items c.match-branch-2.lines.items w.in_default.is (ap (λ v. v.items) w.lines-is)
    ] in
    record {
      kept = goes_then c.args.sig.now c.args.pool.now c.args.sig.now c.loop-rest.pool c.args.sig.now c.read_line.new.pool c.loop-rest.invariant.kept c.read_line.ensures.kept;
      trees = c.in_ok-found.ensures.trees;
      read = read_turn c.args.sig.now c.loop-rest.pool.trees c.read_line.new.pool.trees (lines_of c.args.trace.now) c.loop-rest.number (lines_of c.loop-rest.rest.now) c.split_line.result.0.now (lines_of c.split_line.result.1.now)
          c.loop-rest.lines.items c.match-branch-2.lines.items c.in_ok-found.field-0 c.read_line.ensures.kept.kept c.loop-rest.invariant.read c.split_line.ensures.lines c.in_ok-found.ensures.read pushed;
      few = omega (arith, c.loop-rest.invariant.few, c.split_line.ensures.shorter);
    }

pub returns-clause-read : goal.returns-clause-read
returns-clause-read c =
    let none : length c.loop-rest.rest.now ≡ 0 = first_of (grind (arith, nat_tests), grind (arith, nat_tests, common_steps, c.loop-rest-test.ensures), search rules) in
    trace_read c.args.sig.now c.loop-rest.pool.trees c.args.trace.now c.loop-rest.rest.now c.loop-rest.number (map plain_line c.loop-rest.lines.items) none c.loop-rest.invariant.read
