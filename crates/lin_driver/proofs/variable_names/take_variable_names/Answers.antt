use Rattle.std.proofs.Common.{subst, sym}
use Rattle.lps_core.specs.Naming.{GrowsByNames}
use Rattle.lps_core.proofs.NamedSums.{names_none}
use Rattle.std.proofs.Common.{length}
use Rattle.lps_core.specs.Fitting.{HasTakenName}
use Rattle.data_theory.specs.declared.signature.Variable.{Variable}
use Rattle.lin_driver.specs.TakenNames.{HasIdentifierText, HaveIdentifiers, HaveTakenNames}
use Rattle.lin_driver.proofs.NamedVariables.{named_more, named_still}
use Rattle.lin_driver.proofs.TakenNames.{all_taken, on_ok, on_any}
use Rattle.lin_driver.proofs.variable_names.take_variable_names.Goals as goal

pub returns-in_err-last-clause-grown : goal.returns-in_err-last-clause-grown
returns-in_err-last-clause-grown c = subst (λ z. GrowsByNames c.args.sig.now z) (sym c.in_err-last.ensures.unchanged) (names_none _ c.signature_stands.ensures)

pub returns-clause-taken : goal.returns-clause-taken
returns-clause-taken c =
    let g = c.args.sig.now in
    let h = c.take_name_of.new.sig in
    on_ok c.take_name_of.result (HasTakenName h c.in_ok-last.last) (HaveTakenNames h (length h.variables))
    (λ last. all_taken g c.add_var.new.self c.take_names_below.new.sig h _ c.in_ok-last.last.0 c.in_ok-last.ensures.number c.in_ok-last.ensures.added c.take_names_below.ensures.variables
    c.take_name_of.ensures.grown c.take_name_of.ensures.variables c.in_ok-take_names_below.ensures.taken last)
    c.take_name_of.ensures.taken

pub returns-clause-named : goal.returns-clause-named
returns-clause-named c =
    let g = c.args.sig.now in
    let i = c.add_var.new.self in
    let j = c.take_names_below.new.sig in
    let h = c.take_name_of.new.sig in
    let x : Variable = record { name = c.args.name; sort = record { 0 = 0 } } in
    on_any c.take_name_of.result (HasIdentifierText g c.args.name → HaveIdentifiers g → HaveIdentifiers h) (λ text all.
    let one : HaveIdentifiers i = subst HaveIdentifiers (sym c.in_ok-last.ensures.added) (named_more g x text all) in
    named_still j h c.take_name_of.ensures.grown.grown c.take_name_of.ensures.variables (named_still i j c.take_names_below.ensures.grown.grown c.take_names_below.ensures.variables one))
