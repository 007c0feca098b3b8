use Rattle.std.proofs.Common.{subst, sym, arith, None}
use Rattle.data_theory.specs.Table.{pos_sort}
use Rattle.lps_core.specs.Naming.{GrowsByNames}
use Rattle.lps_core.proofs.NamedSums.{names_none}
use Rattle.lps_core.proofs.NamingLoops.{fresh_names, fresh_within}
use Rattle.regular_encoder.specs.FormColumns.{IsControl, no_control}
use Rattle.regular_encoder.proofs.NewColumns.{control_made, variable_grows, pos_within}
use Rattle.regular_encoder.proofs.layouts.add_control.Goals as goal

pub returns-then-equations-eq1-clause-control : goal.returns-then-equations-eq1-clause-control
returns-then-equations-eq1-clause-control c = subst (λ n. IsControl c.args.sig.now n c.args.sig.now None) (sym c.if-equations-eq1.true) no_control

pub returns-then-equations-eq1-clause-grown : goal.returns-then-equations-eq1-clause-grown
returns-then-equations-eq1-clause-grown c = names_none _ c.signature_stands.ensures

pub returns-in_err-name-clause-grown : goal.returns-in_err-name-clause-grown
returns-in_err-name-clause-grown c = subst (λ z. GrowsByNames c.args.sig.now z) (sym c.in_err-name.ensures.unchanged) (names_none _ c.signature_stands.ensures)

pub add_var-requires-clause-name : goal.add_var-requires-clause-name
add_var-requires-clause-name c = fresh_within _ _ _ _ c.in_ok-name.ensures.fresh

pub returns-in_err-add_var-clause-grown : goal.returns-in_err-add_var-clause-grown
returns-in_err-add_var-clause-grown c = subst (λ z. GrowsByNames c.args.sig.now z) (sym c.in_err-add_var.ensures.unchanged) (fresh_names _ _ _ _ c.signature_stands.ensures c.in_ok-name.ensures.fresh)

pub returns-clause-control : goal.returns-clause-control
returns-clause-control c =
    let n = c.if-equations-eq1.false in
    let r = c.requires in
    control_made c.args.sig.now c.fresh.new.self c.add_var.new.self c.args.equations c.in_ok-name.name c.in_ok-add_var.field-0 (omega (arith, n, r)) c.in_ok-name.ensures.fresh c.in_ok-add_var.ensures.added c.in_ok-add_var.ensures.number

pub returns-clause-grown : goal.returns-clause-grown
returns-clause-grown c =
    variable_grows c.args.sig.now c.fresh.new.self c.add_var.new.self c.in_ok-name.name pos_sort (fresh_names _ _ _ _ c.signature_stands.ensures c.in_ok-name.ensures.fresh) (fresh_within _ _ _ _ c.in_ok-name.ensures.fresh) (pos_within c.args.sig.now c.signature_stands.ensures) c.in_ok-add_var.ensures.added
