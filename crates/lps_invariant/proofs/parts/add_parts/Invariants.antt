use Rattle.lps_invariant.proofs.PartsInCode.{IsFinding}
use Rattle.lps_invariant.proofs.parts.add_parts.Given as goal

abbrev pub invariant-loop-left : goal.invariant-loop-left
invariant-loop-left l = IsFinding l.pool.trees l.fn.term l.fn.found.items l.rest l.found.items

abbrev pub decreases-loop-left : goal.decreases-loop-left
decreases-loop-left l = l.rest.0
