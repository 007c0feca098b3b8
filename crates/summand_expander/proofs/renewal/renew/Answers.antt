use Rattle.std.proofs.Common.{◌≤◌, length, arith, subst}
use Rattle.std.specs.List.{Contains}
use Rattle.std.proofs.lemmas.List.{take_all}
use Rattle.lps_core.proofs.NamedSums.{names_none, names_then, variable_kept}
use Rattle.summand_expander.specs.Renewals.{AreRenewed, no_variable}
use Rattle.summand_expander.proofs.GivingWay.{renewing_more}
use Rattle.summand_expander.proofs.renewal.renew.Goals as goal

pub loop-var-init : goal.loop-var-init
loop-var-init c = (names_none _ c.requires.stands, no_variable)

pub renew_one-requires-clause-stands : goal.renew_one-requires-clause-stands
renew_one-requires-clause-stands c = c.loop-var.invariant.0.stands

pub renew_one-requires-clause-variable : goal.renew_one-requires-clause-variable
renew_one-requires-clause-variable c = variable_kept c.args.sig.now c.loop-var.sig _ c.loop-var.invariant.0.grown (c.requires.variables c.loop-var.var-index _ c.loop-var-test.true)

pub returns-in_err-renew_one-clause-grown : goal.returns-in_err-renew_one-clause-grown
returns-in_err-renew_one-clause-grown c = names_then _ _ _ c.loop-var.invariant.0 c.renew_one.ensures.grown

pub loop-var-preserved : goal.loop-var-preserved
loop-var-preserved c = (
  names_then _ _ _ c.loop-var.invariant.0 c.renew_one.ensures.grown,
  renewing_more (Contains c.args.names.now.keys) (Contains c.args.others.now.keys) c.args.sig.now c.args.renewal.now.from.keys c.args.renewal.now.to.items c.args.vars.now c.loop-var.var-index c.loop-var.sig c.loop-var.renewal.from.keys c.loop-var.renewal.to.items (record { 0 = 0 })
      c.loop-var.invariant.1 c.loop-var-test.true c.renew_one.new.sig c.renew_one.new.renewal.from.keys c.renew_one.new.renewal.to.items c.in_ok-renew_one.ensures.renewed,
)

pub returns-clause-renewed : goal.returns-clause-renewed
returns-clause-renewed c =
    let n = c.loop-var-test.false in
    let l : length c.args.vars.now ≤ c.loop-var.var-index = omega (arith, n) in
    subst (λ z. AreRenewed (Contains c.args.names.now.keys) (Contains c.args.others.now.keys) c.args.sig.now c.args.renewal.now.from.keys c.args.renewal.now.to.items z c.loop-var.sig c.loop-var.renewal.from.keys c.loop-var.renewal.to.items) (take_all c.loop-var.var-index c.args.vars.now l) c.loop-var.invariant.1
