use Rattle.lps_core.proofs.TreeParts.{IsFinding}
use Rattle.lps_core.proofs.conditions.parts_of.Given as goal

abbrev pub invariant-loop-left : goal.invariant-loop-left
invariant-loop-left l = IsFinding l.pool.trees l.fn.cond l.fn.found.items l.rest l.found.items

abbrev pub decreases-loop-left : goal.decreases-loop-left
decreases-loop-left l = l.rest.0
