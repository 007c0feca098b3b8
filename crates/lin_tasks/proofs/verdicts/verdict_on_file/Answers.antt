use Rattle.std.proofs.Common.{rules, Err, ap, map}
use Rattle.mcrl2_text.specs.declared.loading.LoadFault.{LoadFault}
use Rattle.mcrl2_syntax.specs.Declarations.{spec_of}
use Rattle.process_terms.specs.PlainProcesses.{plain_equation}
use Rattle.lps_core.specs.PlainLinears.{plain_linear}
use Rattle.lin_driver.specs.LinearOfTexts.{is_made}
use Rattle.lin_tasks.proofs.ShownTexts.{made_rewrites}
use Rattle.lin_tasks.proofs.VerdictsOnFiles.{bad_as_told, not_loaded, read_fault_of_loading, replayed_as_told}
use Rattle.lin_tasks.proofs.verdicts.verdict_on_file.Goals as goal

pub verdict_of-requires : goal.verdict_of-requires
verdict_of-requires g c = c.requires

pub returns-in_err-trace-clause-stopped : goal.returns-in_err-trace-clause-stopped
returns-in_err-trace-clause-stopped g c =
    not_loaded _ (g.H.Shelf.text_of c.args.shelf.now c.args.name.now) c.from_residual.result c.in_err-trace.field-0.0 (λ ending method text is. tt) (λ long ending method text is. long) (λ ending method text is. tt)
    (λ e. c.in_err-trace.ensures.too_long (ap (λ (x : LoadFault). Err x) e)) c.from_residual.ensures.1

pub returns-in-Ok-clause-replayed : goal.returns-in-Ok-clause-replayed
returns-in-Ok-clause-replayed g c = λ ending method text is.
    let m = c.args.made in
    replayed_as_told ending method text (spec_of m.spec) m.sig m.pool (map plain_equation m.theory.equations.items) m.name (plain_linear m.lin) m.components is
    (made_rewrites ending text (spec_of m.spec) m.sig m.pool.trees m.theory m.name (plain_linear m.lin) (is_made is)).well_formed
    (g.H.Shelf.text_of c.args.shelf.now c.args.name.now) c.in_ok-trace.trace.items c.in_ok-trace.ensures.whole (search rules) c.args.fuel c.args.bound c.in-Ok.answer.status c.in-Ok.answer.text.items
    (rw c.deref.ensures.value at c.in-Ok.ensures.shown)

pub returns-clause-stopped : goal.returns-clause-stopped
returns-clause-stopped g c = λ ending method text is.
    let m = c.args.made in
    let told = g.H.Shelf.text_of c.args.shelf.now c.args.name.now in
    c.for_trace.ensures.cause ending method text told
    (bad_as_told ending method text (spec_of m.spec) m.sig m.pool (map plain_equation m.theory.equations.items) m.name (plain_linear m.lin) m.components is
    told c.in_ok-trace.trace.items c.in_ok-trace.ensures.whole (search rules) c.in-Err.fault (rw c.deref.ensures.value at c.in-Err.ensures.bad_trace))

pub returns-in_err-trace-clause-read_fault : goal.returns-in_err-trace-clause-read_fault
returns-in_err-trace-clause-read_fault g c = λ is. c.in_err-trace.ensures.read_fault (ap (λ (x : LoadFault). Err x) (read_fault_of_loading c.from_residual.result c.in_err-trace.field-0.0 c.from_residual.ensures.1 is))
