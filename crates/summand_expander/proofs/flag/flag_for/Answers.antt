use Rattle.std.proofs.Common.{◌≡◌, None, true, false, subst, sym, ◌∙◌}
use Rattle.lps_core.specs.Naming.{GrowsByNames}
use Rattle.lps_core.specs.PlainLinears.{plain_linear, can_end}
use Rattle.lps_core.proofs.CanEnd.{plain_ends}
use Rattle.lps_core.proofs.NamedSums.{names_none}
use Rattle.lps_core.proofs.NamingLoops.{fresh_names, fresh_within}
use Rattle.summand_expander.specs.Renewals.{IsFlag, no_flag}
use Rattle.summand_expander.proofs.Separating.{bool_within, flag_made, flag_grown}
use Rattle.summand_expander.proofs.flag.flag_for.Goals as goal

pub returns-then-not-can_end-clause-grown : goal.returns-then-not-can_end-clause-grown
returns-then-not-can_end-clause-grown c = names_none _ c.signature_stands.ensures

pub returns-then-not-can_end-clause-flag : goal.returns-then-not-can_end-clause-flag
returns-then-not-can_end-clause-flag c =
    let b = c.if-not-can_end.true in
    let q : c.can_end.result ≡ false = cc in
    subst (λ z. IsFlag c.args.sig.now z c.args.sig.now None) (sym (plain_ends c.args.lin.now.summands.items ∙ sym c.can_end.ensures ∙ q)) no_flag

pub returns-in_err-name-clause-grown : goal.returns-in_err-name-clause-grown
returns-in_err-name-clause-grown c = subst (λ z. GrowsByNames c.args.sig.now z) (sym c.in_err-name.ensures.unchanged) (names_none _ c.signature_stands.ensures)

pub add_var-requires-clause-name : goal.add_var-requires-clause-name
add_var-requires-clause-name c = fresh_within _ _ _ _ c.in_ok-name.ensures.fresh

pub add_var-requires-clause-sort : goal.add_var-requires-clause-sort
add_var-requires-clause-sort c = bool_within _ (fresh_names _ _ _ _ c.signature_stands.ensures c.in_ok-name.ensures.fresh).stands

pub returns-in_err-add_var-clause-grown : goal.returns-in_err-add_var-clause-grown
returns-in_err-add_var-clause-grown c = subst (λ z. GrowsByNames c.args.sig.now z) (sym c.in_err-add_var.ensures.unchanged) (fresh_names _ _ _ _ c.signature_stands.ensures c.in_ok-name.ensures.fresh)

pub returns-clause-grown : goal.returns-clause-grown
returns-clause-grown c = flag_grown c.args.sig.now c.fresh.new.self c.add_var.new.self c.in_ok-name.name _ c.signature_stands.ensures c.in_ok-name.ensures.fresh c.in_ok-add_var.ensures.added

pub returns-clause-flag : goal.returns-clause-flag
returns-clause-flag c =
    let b = c.if-not-can_end.false in
    let q : c.can_end.result ≡ true = cc in
    flag_made c.args.sig.now c.fresh.new.self c.add_var.new.self (can_end (plain_linear c.args.lin.now)) c.in_ok-name.name c.in_ok-add_var.field-0 (plain_ends c.args.lin.now.summands.items ∙ sym c.can_end.ensures ∙ q) c.in_ok-name.ensures.fresh c.in_ok-add_var.ensures.added c.in_ok-add_var.ensures.number
