use Rattle.std.proofs.Common.{List, map, take}
use Rattle.std.specs.Prelude.{◌↔◌}
use Rattle.std.specs.List.{All, AllZip}
use Rattle.data_theory.specs.Provable.{Equation}
use Rattle.data_theory.specs.Terms.{Term}
use Rattle.term_pool.specs.Pools.{Extends}
use Rattle.data_rewriter.specs.Simplifying.{AreWellFormed}
use Rattle.lps_core.specs.PlainLinears.{plain_linear, plain_summand}
use Rattle.lps_sumelm.specs.Simplified.{IsAnswer}
use Rattle.lps_sumelm.specs.Solving.{IsSolvedSummand}
use Rattle.lps_sumelm.specs.SummandsInCode.{summand_at, SummandStands}
use Rattle.lps_sumelm.proofs.eliminating.solved_summands.Given as goal

abbrev pub invariant-loop-summand : goal.invariant-loop-summand
invariant-loop-summand g l = record {
  kept : Extends l.fn.pool.trees l.pool.trees;
  fitting : (own : List Equation) → g.S.Simplifier.fits l.fn.simp l.sig own l.fn.pool.trees → g.S.Simplifier.fits l.simp l.sig own l.pool.trees;
  same : (own : List Equation) (t : Term) → g.S.Simplifier.simple l.simp l.sig own t ↔ g.S.Simplifier.simple l.fn.simp l.sig own t;
  stand : All (SummandStands l.sig l.pool.trees (plain_linear l.lin).params) (map plain_summand l.summands.items);
  solved : (own : List Equation) → g.S.Simplifier.fits l.fn.simp l.sig own l.fn.pool.trees → AreWellFormed l.sig own
      → AllZip (IsSolvedSummand (IsAnswer l.sig own (g.S.Simplifier.simple l.fn.simp l.sig own))) (map (summand_at l.sig l.fn.pool.trees) (map plain_summand (take l.summand-index l.summand-items))) (map (summand_at l.sig l.pool.trees) (map plain_summand l.summands.items));
}
