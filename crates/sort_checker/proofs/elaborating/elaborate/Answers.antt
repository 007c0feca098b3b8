use Rattle.mcrl2_syntax.specs.Declarations.{spec_of}
use Rattle.process_terms.specs.PlainProcesses.{plain_model}
use Rattle.sort_table.specs.BareDeclarations.{bare_sections}
use Rattle.sort_checker.proofs.Adding.{goes_nowhere}
use Rattle.sort_checker.proofs.WholeModels.{model_is, over_then}
use Rattle.sort_checker.proofs.elaborating.elaborate.Goals as goal

pub returns-in_err-check_types-clause-kept : goal.returns-in_err-check_types-clause-kept
returns-in_err-check_types-clause-kept c = goes_nowhere c.args.sig.now c.args.pool.now

pub returns-clause-means : goal.returns-clause-means
returns-clause-means c =
    let typed = c.in_ok-check_types.ensures.elaborates in
    model_is (spec_of c.args.spec.now) c.model_of.new.sig c.model_of.new.pool (plain_model c.in_ok-model.model) typed.vocabulary
    (over_then c.args.sig.now c.model_of.new.sig c.next_sort.ensures.stands c.args.pool.now c.model_of.new.pool c.model_of.ensures.kept (bare_sections (spec_of c.args.spec.now)) typed.vocabulary typed.over) typed.well_typed typed.start
    (c.in_ok-model.ensures.means typed.vocabulary typed.over) c.in_ok-model.ensures.within
