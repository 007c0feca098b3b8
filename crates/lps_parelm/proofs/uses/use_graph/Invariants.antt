use Rattle.lps_core.specs.PlainLinears.{plain_linear}
use Rattle.lps_parelm.proofs.UseLoops.{AreUsesSoFar}
use Rattle.lps_parelm.proofs.uses.use_graph.Given as goal

abbrev pub invariant-loop-place : goal.invariant-loop-place
invariant-loop-place l = AreUsesSoFar l.pool.trees l.params (plain_linear l.lin).summands l.place l.uses.items
