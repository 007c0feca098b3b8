use Rattle.std.proofs.Common.{List, length}
use Rattle.std.specs.Prelude.{◌↔◌}
use Rattle.data_theory.specs.declared.ids.VarId.{VarId}
use Rattle.data_theory.specs.Provable.{Equation}
use Rattle.data_theory.specs.Terms.{Term}
use Rattle.term_pool.specs.Pools.{Extends}
use Rattle.data_rewriter.specs.Simplifying.{AreWellFormed}
use Rattle.lps_core.specs.PlainLinears.{plain_summand}
use Rattle.lps_sumelm.specs.Simplified.{IsAnswer}
use Rattle.lps_sumelm.specs.SummandsInCode.{summand_at, SummandStands}
use Rattle.lps_sumelm.proofs.WholeProcess.{IsOnTheWay}
use Rattle.lps_sumelm.proofs.eliminating.solved_summand.Given as goal

abbrev pub invariant-loop-solved : goal.invariant-loop-solved
invariant-loop-solved g l = record {
  kept : Extends l.fn.pool.trees l.pool.trees;
  fitting : (own : List Equation) → g.S.Simplifier.fits l.fn.simp l.sig own l.fn.pool.trees → g.S.Simplifier.fits l.simp l.sig own l.pool.trees;
  same : (own : List Equation) (t : Term) → g.S.Simplifier.simple l.simp l.sig own t ↔ g.S.Simplifier.simple l.fn.simp l.sig own t;
  stands : (ps : List VarId) → SummandStands l.sig l.fn.pool.trees ps (plain_summand l.summand) → SummandStands l.sig l.pool.trees ps (plain_summand l.solved);
  way : (own : List Equation) → g.S.Simplifier.fits l.fn.simp l.sig own l.fn.pool.trees → AreWellFormed l.sig own
      → IsOnTheWay (IsAnswer l.sig own (g.S.Simplifier.simple l.fn.simp l.sig own)) (summand_at l.sig l.fn.pool.trees (plain_summand l.summand)) (summand_at l.sig l.pool.trees (plain_summand l.solved));
}

abbrev pub decreases-loop-solved : goal.decreases-loop-solved
decreases-loop-solved g l = length l.solved.sums.items
