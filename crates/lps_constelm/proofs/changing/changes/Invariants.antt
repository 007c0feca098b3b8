use Rattle.lps_constelm.proofs.ChangingSteps.{StaySoFar}
use Rattle.lps_constelm.proofs.changing.changes.Given as goal

abbrev pub invariant-loop-summand : goal.invariant-loop-summand
invariant-loop-summand l = StaySoFar l.fn.pool.trees l.by l.place l.init l.summands l.summand-index l.pool.trees
