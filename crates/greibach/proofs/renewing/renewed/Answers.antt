use Rattle.std.proofs.Common.{◌+◌, sym, subst}
use Rattle.greibach.proofs.OneByOne.{IsRenewing, renewing_none, renewing_more}
use Rattle.greibach.proofs.renewing.renewed.Goals as goal

pub loop-var-init : goal.loop-var-init
loop-var-init c = subst (λ z. IsRenewing c.args.sig.now c.args.vars.now 0 c.args.sig.now z) (sym c.new-others.ensures.items) (renewing_none c.args.sig.now c.args.vars.now c.requires.stands)

pub loop-var-preserved : goal.loop-var-preserved
loop-var-preserved c =
    subst (λ z. IsRenewing c.args.sig.now c.args.vars.now (c.loop-var.var-index + 1) c.renew.new.sig z) (sym c.in_ok-push.ensures.items)
    (renewing_more c.args.sig.now c.args.vars.now c.loop-var.var-index c.loop-var.sig c.loop-var.others.items (record { 0 = 0 }) c.loop-var.invariant c.loop-var-test.true
    c.renew.new.sig c.in_ok-renew.field-0 c.renew.ensures.grown c.in_ok-renew.ensures.renewed)
