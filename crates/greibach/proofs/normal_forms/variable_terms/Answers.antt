use Rattle.std.proofs.Common.{◌∙◌, sym, subst}
use Rattle.std.proofs.lemmas.List.Elements.{All-push}
use Rattle.term_pool.specs.HeadTrees.{IsIn, AreIn}
use Rattle.lps_core.proofs.PoolTrees.{extends_on, all_in_kept}
use Rattle.greibach.proofs.StartedEquations.{variable_more}
use Rattle.greibach.proofs.normal_forms.variable_terms.Goals as goal

pub loop-var-preserved : goal.loop-var-preserved
loop-var-preserved c =
    let i = c.loop-var.invariant in
    let us = c.variable_term.new.pool.trees in (
      extends_on c.args.pool.now.trees c.loop-var.pool.trees us i.0 c.variable_term.ensures.kept,
      c.variable_term.ensures.constants ∙ i.1,
      subst (AreIn us) (sym c.in_ok-push.ensures.items) (All-push (IsIn us) c.loop-var.terms.items c.in_ok-variable_term.field-0 (all_in_kept c.loop-var.pool.trees us c.loop-var.terms.items c.variable_term.ensures.kept i.2) c.in_ok-variable_term.ensures.within),
      variable_more c.loop-var.pool.trees us c.args.vars.now c.loop-var.var-index _ c.loop-var.terms.items c.push.new.self.items c.in_ok-variable_term.field-0 c.variable_term.ensures.kept i.2 i.3 c.loop-var-test.true c.in_ok-variable_term.ensures.tree c.in_ok-push.ensures.items,
    )
