use Rattle.std.proofs.Common.{codes, refl, sym, subst}
use Rattle.lps_core.specs.Naming.{GrowsByNames}
use Rattle.lps_core.proofs.NamedSums.{names_none, names_then}
use Rattle.lps_core.proofs.NamingLoops.{fresh_names, fresh_within}
use Rattle.lin_driver.proofs.NamedVariables.{fresh_named, fresh_text, named_usable}
use Rattle.lin_driver.proofs.ProcessNames.{process_name}
use Rattle.lin_driver.proofs.model_linearising.name_process.Goals as goal

pub returns-in_err-name-clause-grown : goal.returns-in_err-name-clause-grown
returns-in_err-name-clause-grown c = subst (λ z. GrowsByNames c.args.sig.now z) (sym c.in_err-name.ensures.unchanged) (names_none c.args.sig.now c.signature_stands.ensures)

pub take_variable_names-requires : goal.take_variable_names-requires
take_variable_names-requires c = fresh_within c.args.sig.now c.fresh.new.self _ c.in_ok-name.name c.in_ok-name.ensures.fresh

pub returns-in_err-take_variable_names-clause-grown : goal.returns-in_err-take_variable_names-clause-grown
returns-in_err-take_variable_names-clause-grown c =
    names_then c.args.sig.now c.fresh.new.self c.take_variable_names.new.sig (fresh_names c.args.sig.now c.fresh.new.self _ c.in_ok-name.name c.signature_stands.ensures c.in_ok-name.ensures.fresh) c.take_variable_names.ensures.grown

pub returns-clause-grown : goal.returns-clause-grown
returns-clause-grown c =
    names_then c.args.sig.now c.fresh.new.self c.take_variable_names.new.sig (fresh_names c.args.sig.now c.fresh.new.self _ c.in_ok-name.name c.signature_stands.ensures c.in_ok-name.ensures.fresh) c.take_variable_names.ensures.grown

pub returns-clause-name : goal.returns-clause-name
returns-clause-name c = process_name c.args.sig.now c.fresh.new.self c.take_variable_names.new.sig c.in_ok-name.name c.signature_stands.ensures c.in_ok-name.ensures.fresh c.take_variable_names.ensures.grown.grown

pub returns-clause-names : goal.returns-clause-names
returns-clause-names c =
    let g = c.args.sig.now in
    let a = c.fresh.new.self in
    let b = c.take_variable_names.new.sig in
    let f = c.in_ok-name.ensures.fresh in
    named_usable b c.in_ok-take_variable_names.ensures.taken (c.in_ok-take_variable_names.ensures.named (fresh_text g a (codes "P") c.in_ok-name.name (refl, refl) f) (fresh_named g a (codes "P") c.in_ok-name.name f c.requires))
