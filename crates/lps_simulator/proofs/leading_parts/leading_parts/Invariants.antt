use Rattle.lps_simulator.proofs.Levels.{IsSplitting}
use Rattle.lps_simulator.proofs.leading_parts.leading_parts.Given as goal

abbrev pub invariant-loop-left : goal.invariant-loop-left
invariant-loop-left l = IsSplitting l.pool.trees l.fn.cond l.rest l.parts.items

abbrev pub decreases-loop-left : goal.decreases-loop-left
decreases-loop-left l = l.rest.0
