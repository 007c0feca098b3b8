use Rattle.std.proofs.Common.{List}
use Rattle.data_theory.specs.Provable.{Equation}
use Rattle.trace_replay.specs.ReadingFaults.{IsTraceFault}
use Rattle.trace_replay.proofs.ReadLemmas.{passed_on}
use Rattle.lin_driver.specs.Eliminations.{equations_in}
use Rattle.lin_tasks.proofs.verdicts.shown_verdict.Goals as goal

pub replay-requires-clause-known : goal.replay-requires-clause-known
replay-requires-clause-known c =
    let own : List Equation = equations_in c.args.sig.now c.args.pool.now.trees c.args.theory.now in
    (own, c.in_ok-rewriter.ensures.fits own c.requires.equations.equations)

pub returns-in_err-verdict-clause-bad_trace : goal.returns-in_err-verdict-clause-bad_trace
returns-in_err-verdict-clause-bad_trace c =
    passed_on (IsTraceFault c.args.sig.now c.args.trace.now) c.from_residual-in_err-verdict.result c.in_err-verdict.field-0.0 c.in_err-verdict.ensures.bad_trace c.from_residual-in_err-verdict.ensures.1

pub returns-clause-shown : goal.returns-clause-shown
returns-clause-shown c =
    let own : List Equation = equations_in c.args.sig.now c.args.pool.now.trees c.args.theory.now in
    record {
      verdict = c.in_ok-verdict.verdict;
      on_trace = c.in_ok-verdict.ensures.verdict own (c.in_ok-rewriter.ensures.fits own c.requires.equations.equations);
      shows = c.in_ok-text.ensures;
      status_is = c.status_of_verdict.ensures;
    }
