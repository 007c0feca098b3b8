use Rattle.term_pool.specs.Pools.{Extends}
use Rattle.lps_core.specs.PlainLinears.{plain_linear}
use Rattle.lps_constelm.proofs.ChangingLoops.{AreChangingSoFar}
use Rattle.lps_constelm.proofs.changing.changing.Given as goal

abbrev pub invariant-loop-place : goal.invariant-loop-place
invariant-loop-place l = Extends l.fn.pool.trees l.pool.trees × AreChangingSoFar l.fn.pool.trees (plain_linear l.lin) l.params l.place l.start.items
