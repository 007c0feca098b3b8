use Rattle.std.proofs.Common.{sym, subst}
use Rattle.std.specs.List.{All}
use Rattle.std.proofs.lemmas.List.Elements.{All-nil}
use Rattle.data_theory.specs.IdTerms.{IsTreeWithin}
use Rattle.mcrl2_syntax.specs.Declarations.{spec_of}
use Rattle.process_terms.specs.PlainProcesses.{plain_model}
use Rattle.sort_checker.specs.Additions.{nothing}
use Rattle.sort_checker.proofs.WholeModels.{built_signatures_are_of_their_texts}
use Rattle.lin_driver.proofs.AcceptedTexts.{accepted_model}
use Rattle.lin_driver.proofs.MadeLinears.{model_can_be_linear, taken_in_the_model}
use Rattle.lin_driver.proofs.Refused.{type_refused, model_refused, model_fault_by}
use Rattle.lin_driver.proofs.linearising.linear_of_spec.Goals as goal

pub elaborate-requires : goal.elaborate-requires
elaborate-requires c = record {
  words = c.requires.words;
  start = c.requires.start;
  built = built_signatures_are_of_their_texts (spec_of c.args.spec.now) c.args.sig.now c.args.sig.now c.requires.stands c.requires.built nothing;
  trees = subst (All (IsTreeWithin c.args.sig.now)) (sym c.requires.no_terms) (All-nil (IsTreeWithin c.args.sig.now));
}

pub returns-in_err-model-clause-refused : goal.returns-in_err-model-clause-refused
returns-in_err-model-clause-refused c = type_refused c.from_residual.result (spec_of c.args.spec.now) c.elaborate.new.sig c.in_err-model.field-0.0 c.in_err-model.ensures.refused c.from_residual.ensures.1

pub linear_of-requires : goal.linear_of-requires
linear_of-requires c =
    model_can_be_linear (spec_of c.args.spec.now) c.args.sig.now c.elaborate.new.sig c.args.pool.now c.elaborate.new.pool (plain_model c.in_ok-model.model) c.requires.words c.requires.stands c.requires.built c.requires.no_constants c.elaborate.ensures.kept c.in_ok-model.ensures.means

pub returns-in-Ok-clause-accepted : goal.returns-in-Ok-clause-accepted
returns-in-Ok-clause-accepted c = accepted_model (spec_of c.args.spec.now) c.elaborate.new.sig c.elaborate.new.pool (plain_model c.in_ok-model.model) c.in_ok-model.ensures.means c.in-Ok.ensures.outside c.in-Ok.ensures.guarded

pub returns-in-Ok-clause-made : goal.returns-in-Ok-clause-made
returns-in-Ok-clause-made c =
    let spec = spec_of c.args.spec.now in
    let g = c.args.sig.now in
    let h = c.elaborate.new.sig in
    let can = model_can_be_linear spec g h c.args.pool.now c.elaborate.new.pool (plain_model c.in_ok-model.model) c.requires.words c.requires.stands c.requires.built c.requires.no_constants c.elaborate.ensures.kept c.in_ok-model.ensures.means in
    record {
      made = record {
        signature = h;
        stands = can.stands;
        declares = built_signatures_are_of_their_texts spec g h c.requires.stands c.requires.built c.elaborate.ensures.kept.added;
        taken = taken_in_the_model spec g h c.requires.built c.elaborate.ensures.kept.added;
        pool = c.elaborate.new.pool;
        model = plain_model c.in_ok-model.model;
        is_model = c.in_ok-model.ensures.means;
        its_equations = sym c.equations_of.ensures;
        fits = can.fits;
        grow = record { signature = c.linear_of.ensures.grown; pool = c.linear_of.ensures.kept };
        leads = c.in-Ok.ensures.linear;
        name = c.in-Ok.ensures.name;
      };
      plain = c.in-Ok.ensures.plain;
      conditions = c.in-Ok.ensures.conditions;
      parameters = c.in-Ok.ensures.linear.params;
      sums = c.in-Ok.ensures.linear.names;
      sorts = c.in-Ok.ensures.sorts;
      keeps = c.in-Ok.ensures.keeps;
      along = c.in-Ok.ensures.composed;
      leaves = c.in-Ok.ensures.components;
    }

pub returns-in-Err-clause-refused : goal.returns-in-Err-clause-refused
returns-in-Err-clause-refused c =
    model_refused (spec_of c.args.spec.now) c.elaborate.new.sig c.elaborate.new.pool (plain_model c.in_ok-model.model) c.in_ok-model.ensures.means c.linear_of.new.sig.texts (c.linear_of.ensures.grown.new_texts, c.linear_of.ensures.grown.texts)
    c.in-Err.fault c.of_model.result c.in-Err.ensures.refused c.of_model.ensures

pub returns-in-Err-clause-by : goal.returns-in-Err-clause-by
returns-in-Err-clause-by c = λ ending. model_fault_by ending c.args.method c.in-Err.fault c.of_model.result c.in-Err.ensures.by c.of_model.ensures
