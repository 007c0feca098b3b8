use Rattle.std.proofs.Common.{refl, ◌∙◌}
use Rattle.lps_core.proofs.SealingLoops.{sealed_made}
use Rattle.lps_core.proofs.sealing.seal_summand.Goals as goal

pub returns-clause-sealed : goal.returns-clause-sealed
returns-clause-sealed c =
    sealed_made c.args.params.now c.args.phase _ _ c.args.pool.now.trees c.seal_condition.new.pool.trees c.seal_next.new.pool.trees c.requires c.seal_condition.ensures.kept c.seal_next.ensures.kept
    (c.in_ok-to_vec.ensures.items_if_clones_equal (λ x y e. e) ∙ c.deref.ensures.value) c.in_ok-copy.ensures refl c.in_ok-cond.ensures.within c.in_ok-cond.ensures.tree c.in_ok-next.ensures.terms
