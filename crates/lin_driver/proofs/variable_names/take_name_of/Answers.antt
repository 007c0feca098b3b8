use Rattle.std.proofs.Common.{subst, sym, rules}
use Rattle.lps_core.specs.Fitting.{HasTakenName}
use Rattle.lps_core.specs.Naming.{GrowsByNames}
use Rattle.lps_core.proofs.NamedSums.{names_none, names_text}
use Rattle.lin_driver.proofs.TakenNames.{its_name_is_taken}
use Rattle.lin_driver.proofs.variable_names.take_name_of.Goals as goal

pub returns-in_err-text-clause-grown : goal.returns-in_err-text-clause-grown
returns-in_err-text-clause-grown c = names_none _ c.signature_stands.ensures

pub returns-in_err-take_name-clause-grown : goal.returns-in_err-take_name-clause-grown
returns-in_err-take_name-clause-grown c = subst (λ z. GrowsByNames c.args.sig.now z) (sym c.in_err-take_name.ensures.unchanged) (names_none _ c.signature_stands.ensures)

pub returns-clause-grown : goal.returns-clause-grown
returns-clause-grown c = subst (λ z. GrowsByNames c.args.sig.now z) (sym c.in_ok-take_name.ensures.taken) (names_text _ _ c.signature_stands.ensures)

pub returns-clause-taken : goal.returns-clause-taken
returns-clause-taken c =
    subst (λ z. HasTakenName z c.args.var) (sym c.in_ok-take_name.ensures.taken)
    (its_name_is_taken _ c.args.var c.var_name.result c.as_str.result.now c.signature_stands.ensures c.requires c.var_name.ensures (search rules))
