use Rattle.std.proofs.Common.{subst, sym}
use Rattle.lps_core.specs.Naming.{GrowsByNames}
use Rattle.lps_core.proofs.NamedSums.{names_none}
use Rattle.lps_core.proofs.NamingLoops.{fresh_names, fresh_within}
use Rattle.summand_expander.proofs.Separating.{bool_within, flag_grown}
use Rattle.summand_expander.proofs.StartingLoops.{first_made}
use Rattle.summand_expander.proofs.starts.first_variable.Goals as goal

pub returns-in_err-name-clause-grown : goal.returns-in_err-name-clause-grown
returns-in_err-name-clause-grown c = subst (λ z. GrowsByNames c.args.sig.now z) (sym c.in_err-name.ensures.unchanged) (names_none _ c.signature_stands.ensures)

pub add_var-requires-clause-name : goal.add_var-requires-clause-name
add_var-requires-clause-name c = fresh_within _ _ _ _ c.in_ok-name.ensures.fresh

pub add_var-requires-clause-sort : goal.add_var-requires-clause-sort
add_var-requires-clause-sort c = bool_within _ (fresh_names _ _ _ _ c.signature_stands.ensures c.in_ok-name.ensures.fresh).stands

pub returns-in_err-var-clause-grown : goal.returns-in_err-var-clause-grown
returns-in_err-var-clause-grown c = subst (λ z. GrowsByNames c.args.sig.now z) (sym c.in_err-var.ensures.unchanged) (fresh_names _ _ _ _ c.signature_stands.ensures c.in_ok-name.ensures.fresh)

pub returns-clause-grown : goal.returns-clause-grown
returns-clause-grown c = flag_grown c.args.sig.now c.fresh.new.self c.add_var.new.self c.in_ok-name.name _ c.signature_stands.ensures c.in_ok-name.ensures.fresh c.in_ok-var.ensures.added

pub returns-clause-first : goal.returns-clause-first
returns-clause-first c = first_made c.args.sig.now c.fresh.new.self c.add_var.new.self c.in_ok-name.name c.in_ok-var.var c.in_ok-name.ensures.fresh c.in_ok-var.ensures.added c.in_ok-var.ensures.number
