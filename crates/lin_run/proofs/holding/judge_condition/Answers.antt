use Rattle.std.proofs.Common.{ℕ, List, map}
use Rattle.mcrl2_syntax.specs.Declarations.{spec_of}
use Rattle.process_terms.specs.PlainProcesses.{plain_equation}
use Rattle.lps_core.specs.PlainLinears.{plain_linear}
use Rattle.lin_driver.specs.Linearised.{IsMadeOf}
use Rattle.lin_driver.specs.LinearOfTexts.{IsLinearOf}
use Rattle.lin_driver.specs.declared.ending.Ending.{Ending}
use Rattle.lin_driver.specs.declared.methods.Method.{Method}
use Rattle.lin_refusals.proofs.FaultNames.{are_named}
use Rattle.lin_refusals.specs.Stops.{IsConditionStop}
use Rattle.lin_words.specs.declared.command.Task.TheVariants.{Invariant}
use Rattle.lin_run.proofs.FurtherAnswers.{condition_answers, condition_stops, stopped_for, text_stops}
use Rattle.lin_run.proofs.holding.judge_condition.Goals as goal

pub judgement_of_file-requires : goal.judgement_of_file-requires
judgement_of_file-requires g c = (c.args.ending, c.args.text.now, c.in-Ok.ensures.made)

pub for_fault-requires : goal.for_fault-requires
for_fault-requires g c = are_named c.args.text.now c.linearise_as.new.names c.in-Err.fault c.in-Err.ensures.refused

pub returns-in-Ok-clause-answered : goal.returns-in-Ok-clause-answered
returns-in-Ok-clause-answered g c =
    let made = c.in-Ok.made in
    condition_answers (λ (ending : Ending) (method : Method) (text : List ℕ). IsLinearOf ending method text (spec_of made.spec) made.sig made.pool (map plain_equation made.theory.equations.items) made.name (plain_linear made.lin) made.components)
    (λ (ending : Ending) (text : List ℕ). IsMadeOf ending text (spec_of made.spec) made.sig made.pool.trees (map plain_equation made.theory.equations.items) made.name (plain_linear made.lin)) c.judgement_of_file.result c.args.ending c.args.method c.args.fuel
    c.args.text.now (g.H.Shelf.text_of c.args.shelf.now c.args.name.now) c.in-Ok.ensures.accepted c.in-Ok.ensures.linear c.in-Ok.ensures.made c.judgement_of_file.ensures.judged c.judgement_of_file.ensures.stands_for

pub returns-in-Ok-clause-cause : goal.returns-in-Ok-clause-cause
returns-in-Ok-clause-cause g c =
    let made = c.in-Ok.made in
    let told = g.H.Shelf.text_of c.args.shelf.now c.args.name.now in
    condition_stops c.args.text.now told c.args.ending c.args.method c.args.fuel c.requires c.in-Ok.ensures.accepted (record { spec = spec_of made.spec; signature = made.sig; pool = made.pool; equations = map plain_equation made.theory.equations.items; name = made.name; linear = plain_linear made.lin; components = made.components; is_linear = c.in-Ok.ensures.linear })
    c.judgement_of_file.result
    (stopped_for (λ (ending : Ending) (method : Method) (text : List ℕ). IsLinearOf ending method text (spec_of made.spec) made.sig made.pool (map plain_equation made.theory.equations.items) made.name (plain_linear made.lin) made.components) (λ ending method text stop. IsConditionStop ending method text told stop)
    c.judgement_of_file.result c.args.ending c.args.method c.args.text.now c.in-Ok.ensures.linear c.judgement_of_file.ensures.stopped)

pub returns-clause-cause : goal.returns-clause-cause
returns-clause-cause g c =
    text_stops c.args.ending (Invariant c.args.method c.args.fuel) c.args.text.now (g.H.Shelf.text_of c.args.shelf.now c.args.name.now) c.linearise_as.new.names c.in-Err.fault c.for_fault.result c.requires c.in-Err.ensures.by c.in-Err.ensures.refused c.for_fault.ensures
