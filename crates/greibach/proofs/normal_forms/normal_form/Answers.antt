use Rattle.std.proofs.Common.{◌<◌, map, refl, subst}
use Rattle.std.proofs.lemmas.List.{length-map}
use Rattle.process_terms.specs.PlainProcesses.{plain_component, plain_definition, plain_model}
use Rattle.process_terms.specs.SignatureEntries.{entries_of}
use Rattle.lps_core.proofs.GrownSignatures.{grown_same}
use Rattle.lps_core.proofs.NamedSums.{names_none}
use Rattle.lps_core.proofs.PoolTrees.{extends_itself}
use Rattle.greibach.specs.PlainForms.{plain_equation}
use Rattle.greibach.specs.PlacesInCode.{plain_place, plain_places}
use Rattle.greibach.proofs.MadeForms.{made_fit, start_within}
use Rattle.greibach.proofs.FormOfComponent.{form_of_component}
use Rattle.greibach.proofs.FormsOfComponents.{forms_of_components_good}
use Rattle.greibach.proofs.KeptShapes.{forms_keep_linear_shapes}
use Rattle.greibach.proofs.PlainlyConditioned.{forms_of_components_plain}
use Rattle.greibach.proofs.GrownFits.{both_by_names, pool_alone}
use Rattle.greibach.proofs.normal_forms.normal_form.Goals as goal

pub returns-in_err-places-clause-grown : goal.returns-in_err-places-clause-grown
returns-in_err-places-clause-grown c = names_none c.args.sig.now c.requires.stands

pub equations-requires-clause-table : goal.equations-requires-clause-table
equations-requires-clause-table c = record {
  old = c.args.sig.now;
  trees = c.args.pool.now.trees;
  signature = c.requires.stands;
  grown = record { signature = grown_same c.args.sig.now c.args.sig.now refl; pool = extends_itself c.args.pool.now.trees };
  fit = c.in_ok-places.ensures.fit;
}

pub equations-requires-clause-start : goal.equations-requires-clause-start
equations-requires-clause-start c =
    subst (λ n. c.in_ok-places.places.start < n) (length-map c.in_ok-places.places.places.items plain_place)
    (start_within (plain_places c.in_ok-places.places) (map plain_definition c.args.guarded.now.model.now.procs.items) (plain_component c.args.start.now) c.in_ok-places.ensures.starts)

pub returns-clause-fits : goal.returns-clause-fits
returns-clause-fits c =
    made_fit c.args.sig.now c.equations.new.sig c.args.pool.now.trees c.equations.new.pool.trees (plain_places c.in_ok-places.places) (map plain_definition c.args.guarded.now.model.now.procs.items) (plain_component c.args.start.now) (map plain_equation c.in_ok-equations.equations.items) c.in_ok-init.init.items
    c.requires.stands c.in_ok-equations.ensures.grown c.in_ok-equations.ensures.kept c.in_ok-places.ensures.fit c.in_ok-places.ensures.starts c.requires.component c.in_ok-equations.ensures.made c.in_ok-init.ensures

pub returns-clause-unfolds : goal.returns-clause-unfolds
returns-clause-unfolds c =
    form_of_component c.args.sig.now c.equations.new.sig c.args.pool.now.trees c.equations.new.pool.trees c.requires.stands c.in_ok-equations.ensures.grown.stands
    (both_by_names c.args.sig.now c.equations.new.sig c.args.pool.now.trees c.equations.new.pool.trees c.in_ok-equations.ensures.grown c.in_ok-equations.ensures.kept) (plain_model c.args.guarded.now.model.now) c.requires.model (plain_component c.args.start.now) (plain_places c.in_ok-places.places) (map plain_equation c.in_ok-equations.equations.items) c.in_ok-init.init.items
    c.requires.component (c.requires.sequential (entries_of c.equations.new.sig c.equations.new.pool.trees)) (c.requires.scopes (entries_of c.equations.new.sig c.equations.new.pool.trees)) c.in_ok-places.ensures.table
    (c.in_ok-equations.ensures.heads c.equations.new.sig c.equations.new.pool.trees c.in_ok-equations.ensures.grown.stands (pool_alone c.equations.new.sig c.equations.new.pool.trees c.equations.new.pool.trees (extends_itself c.equations.new.pool.trees))) c.in_ok-init.ensures

pub returns-clause-bisimilar : goal.returns-clause-bisimilar
returns-clause-bisimilar c =
    forms_of_components_good c.equations.new.sig c.equations.new.pool.trees (plain_model c.args.guarded.now.model.now) (plain_component c.args.start.now) (record { equations = map plain_equation c.in_ok-equations.equations.items; init = c.in_ok-init.init.items })
    (returns-clause-unfolds c)

pub returns-clause-linear : goal.returns-clause-linear
returns-clause-linear c =
    forms_keep_linear_shapes c.equations.new.sig c.equations.new.pool.trees (plain_model c.args.guarded.now.model.now) (plain_component c.args.start.now) (record { equations = map plain_equation c.in_ok-equations.equations.items; init = c.in_ok-init.init.items })
    (returns-clause-unfolds c)

pub returns-clause-plain : goal.returns-clause-plain
returns-clause-plain c =
    let stands = c.in_ok-equations.ensures.grown.stands in
    forms_of_components_plain c.equations.new.sig c.equations.new.pool (plain_model c.args.guarded.now.model.now) (plain_component c.args.start.now) (record { equations = map plain_equation c.in_ok-equations.equations.items; init = c.in_ok-init.init.items })
    stands.table stands.complete (returns-clause-fits c) (returns-clause-unfolds c)
