use Rattle.std.proofs.Common.{map}
use Rattle.lps_core.specs.PlainLinears.{PlainSummand, plain_summand}
use Rattle.lps_constelm.specs.Runs.{IsSummandWithin, SummandBecomes}
use Rattle.lps_constelm.proofs.RunLoops.{Along}
use Rattle.lps_constelm.proofs.simplifying.simplify_summands.Given as goal

abbrev pub invariant-loop-summand : goal.invariant-loop-summand
invariant-loop-summand g l = Along PlainSummand IsSummandWithin SummandBecomes (g.S.Simplifier.fits l.fn.simp) (g.S.Simplifier.fits l.simp) (g.S.Simplifier.simple l.fn.simp) (g.S.Simplifier.simple l.simp) l.fn.pool.trees l.pool.trees (map plain_summand l.summands) l.summand-index (map plain_summand l.made.items)
