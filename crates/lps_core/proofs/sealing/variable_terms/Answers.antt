use Rattle.std.proofs.Common.{◌+◌, sym, ◌∙◌, subst}
use Rattle.lps_core.proofs.SealingLoops.{IsTelling, telling_more}
use Rattle.lps_core.proofs.sealing.variable_terms.Goals as goal

pub loop-var-preserved : goal.loop-var-preserved
loop-var-preserved c = (
  subst (λ z. IsTelling c.args.pool.now.trees c.args.vars.now (c.loop-var.var-index + 1) c.variable_term.new.pool.trees z) (sym c.in_ok-push.ensures.items)
      (telling_more _ _ _ _ _ (record { 0 = 0 }) c.loop-var.invariant.0 c.loop-var-test.true _ _ c.variable_term.ensures.kept c.in_ok-variable_term.ensures.within c.in_ok-variable_term.ensures.tree),
  c.variable_term.ensures.constants ∙ c.loop-var.invariant.1,
)
