use Rattle.std.proofs.Common.{refl, ◌∙◌}
use Rattle.lps_core.proofs.TreeParts.{joining_none, joining_more, two_unmerged}
use Rattle.lps_core.proofs.conditions.conjoined.Goals as goal

pub loop-part-init : goal.loop-part-init
loop-part-init c = (joining_none _ _ _ _ c.in-Some.ensures.items c.requires, refl)

pub loop-part-preserved : goal.loop-part-preserved
loop-part-preserved c = (
  joining_more _ _ _ _ _ _ _ _ _ c.loop-part.invariant.0 c.in-Some-pop.ensures.items c.intern-in-Some-pop.ensures.kept (c.in_ok-chain.ensures.tree ∙ two_unmerged _ _ _) c.in_ok-chain.ensures.within,
  c.intern-in-Some-pop.ensures.constants ∙ c.loop-part.invariant.1,
)
