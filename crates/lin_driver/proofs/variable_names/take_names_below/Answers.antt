use Rattle.std.proofs.Common.{arith, refl, length, sym, subst, ◌∙◌, ◌<◌}
use Rattle.lps_core.proofs.NamedSums.{names_none, names_then}
use Rattle.lin_driver.proofs.TakenNames.{none_taken, one_more_taken}
use Rattle.lin_driver.proofs.variable_names.take_names_below.Goals as goal

pub loop-number-init : goal.loop-number-init
loop-number-init c = (names_none c.args.sig.now c.signature_stands.ensures, refl, none_taken c.args.sig.now)

pub loop-number-preserved : goal.loop-number-preserved
loop-number-preserved c =
    let inv = c.loop-number.invariant in
    let e = c.take_name_of.ensures in
    let few = c.requires in
    let test = c.loop-number-test.true in
    let below : c.loop-number.number < length c.args.sig.now.variables = omega (arith, few, test) in (
      names_then _ _ _ inv.0 e.grown,
      e.variables ∙ inv.1,
      one_more_taken c.loop-number.sig c.take_name_of.new.sig c.loop-number.number (subst (λ vs. c.loop-number.number < length vs) (sym inv.1) below) e.grown e.variables inv.2 c.in_ok-take_name_of.ensures.taken,
    )
