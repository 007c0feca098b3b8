use Rattle.lps_constelm.proofs.PuttingLoops.{PutsSummands}
use Rattle.lps_constelm.proofs.putting.put_summands.Given as goal

abbrev pub invariant-loop-summand : goal.invariant-loop-summand
invariant-loop-summand l = PutsSummands l.fn.pool.trees l.by l.marks l.summands l.summand-index l.pool.trees l.made.items
