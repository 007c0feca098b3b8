use Rattle.std.proofs.Common.{[], sym, subst, append-nil}
use Rattle.std.specs.List.{All}
use Rattle.std.proofs.lemmas.List.Elements.{All-nil}
use Rattle.data_theory.specs.IdTerms.{IsTreeWithin}
use Rattle.mcrl2_syntax.specs.Declarations.{spec_of}
use Rattle.process_terms.specs.PlainProcesses.{plain_model}
use Rattle.proc_unfold.proofs.WellFormed.{well_formed_calls}
use Rattle.sort_checker.specs.Additions.{nothing}
use Rattle.sort_checker.proofs.WholeModels.{built_signatures_are_of_their_texts}
use Rattle.lin_driver.proofs.AcceptedTexts.{accepted_model}
use Rattle.lin_driver.proofs.MadeLinears.{model_can_be_linear}
use Rattle.lin_driver.proofs.Refused.{type_refused, model_refused}
use Rattle.lin_driver.proofs.UpToRecursion.{type_of_the_text, model_of_the_text}
use Rattle.lin_driver.proofs.checking.check_spec.Goals as goal

pub elaborate-requires : goal.elaborate-requires
elaborate-requires c = record {
  words = c.requires.words;
  start = c.requires.start;
  built = built_signatures_are_of_their_texts (spec_of c.args.spec.now) c.args.sig.now c.args.sig.now c.requires.stands c.requires.built nothing;
  trees = subst (All (IsTreeWithin c.args.sig.now)) (sym c.requires.no_terms) (All-nil (IsTreeWithin c.args.sig.now));
}

pub returns-in_err-model-clause-of_the_text : goal.returns-in_err-model-clause-of_the_text
returns-in_err-model-clause-of_the_text c = type_of_the_text c.from_residual.result c.in_err-model.field-0.0 c.from_residual.ensures.1

pub returns-in_err-model-clause-refused : goal.returns-in_err-model-clause-refused
returns-in_err-model-clause-refused c = type_refused c.from_residual.result (spec_of c.args.spec.now) c.elaborate.new.sig c.in_err-model.field-0.0 c.in_err-model.ensures.refused c.from_residual.ensures.1

pub check_model-requires : goal.check_model-requires
check_model-requires c =
    let can = model_can_be_linear (spec_of c.args.spec.now) c.args.sig.now c.elaborate.new.sig c.args.pool.now c.elaborate.new.pool (plain_model c.in_ok-model.model) c.requires.words c.requires.stands c.requires.built c.requires.no_constants c.elaborate.ensures.kept c.in_ok-model.ensures.means in
    well_formed_calls c.elaborate.new.pool.trees (plain_model c.in_ok-model.model) (record { signature = c.elaborate.new.sig; stands = can.stands; fits = can.fits })

pub returns-in-Ok-clause-accepted : goal.returns-in-Ok-clause-accepted
returns-in-Ok-clause-accepted c = accepted_model (spec_of c.args.spec.now) c.elaborate.new.sig c.elaborate.new.pool (plain_model c.in_ok-model.model) c.in_ok-model.ensures.means c.in-Ok.ensures.outside c.in-Ok.ensures.guarded

pub returns-clause-of_the_text : goal.returns-clause-of_the_text
returns-clause-of_the_text c = model_of_the_text c.in-Err.fault c.of_model.result c.in-Err.ensures.up_to_recursion c.of_model.ensures

pub returns-clause-refused : goal.returns-clause-refused
returns-clause-refused c =
    model_refused (spec_of c.args.spec.now) c.elaborate.new.sig c.elaborate.new.pool (plain_model c.in_ok-model.model) c.in_ok-model.ensures.means c.elaborate.new.sig.texts ([], sym (append-nil c.elaborate.new.sig.texts))
    c.in-Err.fault c.of_model.result c.in-Err.ensures.refused c.of_model.ensures
