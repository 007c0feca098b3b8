use Rattle.std.proofs.Common.{sym, ◌∙◌}
use Rattle.lin_driver.proofs.NeededTrees.{opening_first, opening_more, opening_done, weights_fall}
use Rattle.lin_driver.proofs.tidying.needed_parts.Goals as goal

pub loop-last-init : goal.loop-last-init
loop-last-init c = opening_first _ _ _ _ c.new-parts.ensures.items c.in_ok-parts_of.ensures.parts c.in_ok-parts_of.ensures.within

pub returns-then-not-is_conjunction-clause-parts : goal.returns-then-not-is_conjunction-clause-parts
returns-then-not-is_conjunction-clause-parts c = opening_done _ _ _ _ _ _ c.loop-last.invariant c.in-Some.ensures.items (sym c.is_conjunction.ensures ∙ c.if-not-is_conjunction.true) c.in_ok-push.ensures.items

pub loop-last-smaller : goal.loop-last-smaller
loop-last-smaller c = weights_fall _ _ _ _ _ c.in-Some.ensures.items (sym c.is_conjunction.ensures ∙ c.if-not-is_conjunction.false) c.in_ok-parts_of-2.ensures.parts

pub loop-last-preserved : goal.loop-last-preserved
loop-last-preserved c = opening_more _ _ _ _ _ _ c.loop-last.invariant c.in-Some.ensures.items c.in_ok-parts_of-2.ensures.parts c.in_ok-parts_of-2.ensures.within
