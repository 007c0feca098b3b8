use Rattle.std.proofs.Common.{rules, Err, ap, map}
use Rattle.mcrl2_text.specs.declared.loading.LoadFault.{LoadFault}
use Rattle.mcrl2_syntax.specs.Declarations.{spec_of}
use Rattle.process_terms.specs.PlainProcesses.{plain_equation}
use Rattle.lps_core.specs.PlainLinears.{plain_linear}
use Rattle.lin_tasks.proofs.StepsAfter.{bad_as_told, shown_as_told}
use Rattle.lin_tasks.proofs.VerdictsOnFiles.{not_loaded, read_fault_of_loading}
use Rattle.lin_tasks.proofs.stepping_after.steps_after_file.Goals as goal

pub steps_after_of-requires : goal.steps_after_of-requires
steps_after_of-requires g c = c.requires

pub returns-in_err-choices-clause-stopped : goal.returns-in_err-choices-clause-stopped
returns-in_err-choices-clause-stopped g c =
    not_loaded _ (g.H.Shelf.text_of c.args.shelf.now c.args.name.now) c.from_residual.result c.in_err-choices.field-0.0 (λ ending method text is. tt) (λ long ending method text is. long) (λ ending method text is. tt)
    (λ e. c.in_err-choices.ensures.too_long (ap (λ (x : LoadFault). Err x) e)) c.from_residual.ensures.1

pub returns-in-Ok-clause-shown : goal.returns-in-Ok-clause-shown
returns-in-Ok-clause-shown g c = λ ending method text is.
    let m = c.args.made in
    shown_as_told ending method text (spec_of m.spec) m.sig m.pool (map plain_equation m.theory.equations.items) m.name (plain_linear m.lin) m.components is (g.H.Shelf.text_of c.args.shelf.now c.args.name.now) c.in_ok-choices.choices.items c.in_ok-choices.ensures.whole (search rules)
    c.args.fuel c.args.bound c.in-Ok.answer.status c.in-Ok.answer.text.items (rw c.deref.ensures.value at c.in-Ok.ensures.shown)

pub returns-clause-stopped : goal.returns-clause-stopped
returns-clause-stopped g c = λ ending method text is.
    let m = c.args.made in
    let told = g.H.Shelf.text_of c.args.shelf.now c.args.name.now in
    c.for_choice.ensures.cause ending method c.args.fuel c.args.bound text told
    (bad_as_told ending method text (spec_of m.spec) m.sig m.pool (map plain_equation m.theory.equations.items) m.name (plain_linear m.lin) m.components is told c.in_ok-choices.choices.items c.in_ok-choices.ensures.whole (search rules)
    c.args.fuel c.args.bound c.in-Err.fault (rw c.deref.ensures.value at c.in-Err.ensures.fault))

pub returns-in_err-choices-clause-read_fault : goal.returns-in_err-choices-clause-read_fault
returns-in_err-choices-clause-read_fault g c = λ is. c.in_err-choices.ensures.read_fault (ap (λ (x : LoadFault). Err x) (read_fault_of_loading c.from_residual.result c.in_err-choices.field-0.0 c.from_residual.ensures.1 is))
