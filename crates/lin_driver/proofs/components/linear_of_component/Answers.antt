use Rattle.std.proofs.Common.{sym, subst}
use Rattle.data_theory.proofs.IdGrowthLemmas.{growth_after_growth_is_growth}
use Rattle.term_pool.specs.Constants.{AreConstants}
use Rattle.term_pool.proofs.DeclaredConstants.{constants_stay}
use Rattle.process_terms.specs.PlainProcesses.{plain_component, plain_model}
use Rattle.lps_core.specs.PlainLinears.{plain_linear}
use Rattle.greibach.specs.PlainForms.{plain_form}
use Rattle.regular_encoder.proofs.InhabitedColumns.{still_inhabited}
use Rattle.lin_driver.proofs.AddedSorts.{leaf_adds_no_sort}
use Rattle.lin_driver.proofs.MadeLeaves.{leaf_made, leaf_fault, fault_by}
use Rattle.lin_driver.proofs.PlainLeaves.{leaf_plain}
use Rattle.lin_driver.proofs.KeptTexts.{leaf_kept}
use Rattle.lin_driver.proofs.components.linear_of_component.Goals as goal

pub encode_form-requires-clause-inhabited : goal.encode_form-requires-clause-inhabited
encode_form-requires-clause-inhabited c =
    let w = c.normal_form.ensures.grown in
    still_inhabited c.args.sig.now c.normal_form.new.sig c.requires.ready.stands w.stands w.grown w.sorts c.requires.ready.inhabited

pub encode_form-requires-clause-constants : goal.encode_form-requires-clause-constants
encode_form-requires-clause-constants c =
    constants_stay c.args.sig.now c.normal_form.new.sig c.normal_form.new.pool.constants c.normal_form.ensures.grown.grown (subst (λ cs. AreConstants c.args.sig.now cs) (sym c.normal_form.ensures.constants) c.requires.ready.constants)

pub returns-in-Ok-clause-grown : goal.returns-in-Ok-clause-grown
returns-in-Ok-clause-grown c = growth_after_growth_is_growth c.args.sig.now c.normal_form.new.sig c.encode_form.new.sig c.normal_form.ensures.grown.grown c.encode_form.ensures.grown

pub returns-clause-grown : goal.returns-clause-grown
returns-clause-grown c = growth_after_growth_is_growth c.args.sig.now c.normal_form.new.sig c.encode_form.new.sig c.normal_form.ensures.grown.grown c.encode_form.ensures.grown

pub returns-in-Ok-clause-made : goal.returns-in-Ok-clause-made
returns-in-Ok-clause-made c =
    leaf_made c.args.method c.args.sig.now c.normal_form.new.sig c.encode_form.new.sig c.args.pool.now c.normal_form.new.pool c.encode_form.new.pool (plain_model c.args.guarded.now.model.now) (plain_component c.args.component.now) (plain_form c.in_ok-form.form) (plain_linear c.in-Ok.linear)
    c.requires.ready c.requires.leaf c.normal_form.ensures.grown c.normal_form.ensures.kept c.in_ok-form.ensures.fits c.in_ok-form.ensures.unfolds c.in_ok-form.ensures.bisimilar
    c.in-Ok.ensures.stands c.in-Ok.ensures.inhabited c.encode_form.ensures.grown c.encode_form.ensures.kept c.encode_form.ensures.constants c.in-Ok.ensures.leads c.in-Ok.ensures.tail

pub returns-clause-refused : goal.returns-clause-refused
returns-clause-refused c =
    leaf_fault c.args.method c.normal_form.new.sig c.normal_form.new.pool.trees (plain_model c.args.guarded.now.model.now) (plain_component c.args.component.now) (plain_form c.in_ok-form.form) c.args.number c.in-Err.fault _
    c.in_ok-form.ensures.unfolds c.in-Err.ensures.refused c.of_component.ensures

pub returns-clause-by : goal.returns-clause-by
returns-clause-by c = fault_by c.args.method (plain_form c.in_ok-form.form) c.args.number c.in-Err.fault _ c.in-Err.ensures.refused c.of_component.ensures

pub returns-in-Ok-clause-plain : goal.returns-in-Ok-clause-plain
returns-in-Ok-clause-plain c =
    leaf_plain c.args.sig.now c.normal_form.new.sig c.encode_form.new.sig c.args.pool.now c.normal_form.new.pool c.encode_form.new.pool (plain_model c.args.guarded.now.model.now) (plain_component c.args.component.now) (plain_form c.in_ok-form.form) (plain_linear c.in-Ok.linear)
    c.requires.ready c.requires.leaf c.normal_form.ensures.grown c.normal_form.ensures.kept c.in_ok-form.ensures.fits c.in_ok-form.ensures.plain c.in-Ok.ensures.stands c.encode_form.ensures.grown c.encode_form.ensures.kept c.in-Ok.ensures.plain

pub returns-in-Ok-clause-sorts : goal.returns-in-Ok-clause-sorts
returns-in-Ok-clause-sorts c =
    leaf_adds_no_sort c.args.method c.args.sig.now c.normal_form.new.sig c.encode_form.new.sig c.normal_form.new.pool c.encode_form.new.pool (plain_model c.args.guarded.now.model.now) (plain_component c.args.component.now) (plain_form c.in_ok-form.form) (plain_linear c.in-Ok.linear)
    c.normal_form.ensures.grown.sorts c.in_ok-form.ensures.unfolds c.in-Ok.ensures.encoded

pub returns-in-Ok-clause-keeps : goal.returns-in-Ok-clause-keeps
returns-in-Ok-clause-keeps c =
    leaf_kept c.args.method c.args.sig.now c.normal_form.new.sig c.encode_form.new.sig c.args.pool.now c.normal_form.new.pool c.encode_form.new.pool (plain_model c.args.guarded.now.model.now) (plain_component c.args.component.now) (plain_form c.in_ok-form.form) (plain_linear c.in-Ok.linear)
    c.requires.ready c.requires.leaf c.normal_form.ensures.grown c.normal_form.ensures.kept c.in_ok-form.ensures.fits c.in_ok-form.ensures.unfolds c.in_ok-form.ensures.linear c.in-Ok.ensures.stands c.encode_form.ensures.grown c.encode_form.ensures.kept c.in-Ok.ensures.encoded c.in-Ok.ensures.leads.fits
