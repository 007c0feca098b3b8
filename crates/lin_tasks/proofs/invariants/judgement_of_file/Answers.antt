use Rattle.std.proofs.Common.{rules, Err, ap, map}
use Rattle.mcrl2_parser.specs.declared.term_text.TermFault.{TermFault}
use Rattle.mcrl2_text.specs.declared.loading.LoadFault.{LoadFault}
use Rattle.mcrl2_syntax.specs.Declarations.{spec_of}
use Rattle.process_terms.specs.PlainProcesses.{plain_equation}
use Rattle.lps_core.specs.PlainLinears.{plain_linear}
use Rattle.lin_driver.specs.LinearOfTexts.{is_made}
use Rattle.lin_tasks.proofs.HeldConditions.{held_stands_for}
use Rattle.lin_tasks.proofs.JudgedAnswers.{bad_term_as_told, judged_as_told}
use Rattle.lin_tasks.proofs.ShownTexts.{made_rewrites}
use Rattle.lin_tasks.proofs.VerdictsOnFiles.{not_loaded, read_fault_of_loading}
use Rattle.lin_tasks.proofs.invariants.judgement_of_file.Goals as goal

pub shown_of-requires : goal.shown_of-requires
shown_of-requires g c = c.requires

pub returns-in_err-condition-clause-stopped : goal.returns-in_err-condition-clause-stopped
returns-in_err-condition-clause-stopped g c =
    not_loaded _ (g.H.Shelf.text_of c.args.shelf.now c.args.name.now) c.from_residual.result c.in_err-condition.field-0.0 (λ ending method text is. tt) (λ long ending method text is. long) (λ ending method text is. tt)
    (λ e. c.in_err-condition.ensures.too_long (ap (λ (x : LoadFault). Err x) e)) c.from_residual.ensures.1

pub returns-in-Ok-clause-judged : goal.returns-in-Ok-clause-judged
returns-in-Ok-clause-judged g c = λ ending method text is.
    let m = c.args.made in
    judged_as_told ending method text (spec_of m.spec) m.sig m.pool (map plain_equation m.theory.equations.items) m.name (plain_linear m.lin) m.components is
    (g.H.Shelf.text_of c.args.shelf.now c.args.name.now) c.in_ok-condition.condition.items c.in_ok-condition.ensures.whole (search rules)
    (made_rewrites ending text (spec_of m.spec) m.sig m.pool.trees m.theory m.name (plain_linear m.lin) (is_made is)).well_formed
    c.args.fuel c.in-Ok.answer.status c.in-Ok.answer.text.items (rw c.deref.ensures.value at c.in-Ok.ensures.shown)

pub returns-in-Ok-clause-stands_for : goal.returns-in-Ok-clause-stands_for
returns-in-Ok-clause-stands_for g c = λ done ending text made.
    let m = c.args.made in
    held_stands_for ending text (spec_of m.spec) m.sig m.pool.trees (map plain_equation m.theory.equations.items) m.name (plain_linear m.lin) made
    (made_rewrites ending text (spec_of m.spec) m.sig m.pool.trees m.theory m.name (plain_linear m.lin) made).well_formed
    c.args.fuel c.in_ok-condition.condition.items c.in-Ok.answer.status c.in-Ok.answer.text.items (rw c.deref.ensures.value at c.in-Ok.ensures.shown) done

pub returns-clause-stopped : goal.returns-clause-stopped
returns-clause-stopped g c = λ ending method text is.
    let m = c.args.made in
    let told = g.H.Shelf.text_of c.args.shelf.now c.args.name.now in
    c.for_term.ensures.cause ending method text told
    (λ e. bad_term_as_told ending method text (spec_of m.spec) m.sig m.pool (map plain_equation m.theory.equations.items) m.name (plain_linear m.lin) m.components is
    told c.in_ok-condition.condition.items c.in_ok-condition.ensures.whole (search rules) ((rw c.deref.ensures.value at c.in-Err.ensures.not_a_term) (ap (λ (x : TermFault). Err x) e)))

pub returns-in_err-condition-clause-read_fault : goal.returns-in_err-condition-clause-read_fault
returns-in_err-condition-clause-read_fault g c = λ is. c.in_err-condition.ensures.read_fault (ap (λ (x : LoadFault). Err x) (read_fault_of_loading c.from_residual.result c.in_err-condition.field-0.0 c.from_residual.ensures.1 is))
