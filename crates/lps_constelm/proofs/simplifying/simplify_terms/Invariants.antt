use Rattle.data_theory.specs.declared.ids.TermId.{TermId}
use Rattle.data_rewriter.specs.Standing.{IsTerm}
use Rattle.lps_constelm.specs.Runs.{TermBecomes}
use Rattle.lps_constelm.proofs.RunLoops.{Along}
use Rattle.lps_constelm.proofs.simplifying.simplify_terms.Given as goal

abbrev pub invariant-loop-term : goal.invariant-loop-term
invariant-loop-term g l = Along TermId IsTerm TermBecomes (g.S.Simplifier.fits l.fn.simp) (g.S.Simplifier.fits l.simp) (g.S.Simplifier.simple l.fn.simp) (g.S.Simplifier.simple l.simp) l.fn.pool.trees l.pool.trees l.terms l.term-index l.made.items
