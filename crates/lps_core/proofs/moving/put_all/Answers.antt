use Rattle.std.proofs.Common.{◌+◌, sym, ◌∙◌, subst}
use Rattle.lps_core.proofs.PoolTrees.{IsPutting, putting_more}
use Rattle.lps_core.proofs.moving.put_all.Goals as goal

pub loop-term-preserved : goal.loop-term-preserved
loop-term-preserved c = (
  subst (λ z. IsPutting c.args.pool.now.trees c.args.by.now c.args.terms.now (c.loop-term.term-index + 1) c.subst.new.self.trees z) (sym c.in_ok-push.ensures.items)
      (putting_more _ _ _ _ _ _ (record { 0 = 0 }) c.loop-term.invariant.0 c.loop-term-test.true c.requires.within c.requires.listed _ _ c.subst.ensures.kept c.in_ok-subst.ensures.tree c.in_ok-subst.ensures.within),
  c.subst.ensures.constants ∙ c.loop-term.invariant.1,
)
