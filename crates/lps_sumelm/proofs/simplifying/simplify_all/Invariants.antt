use Rattle.std.proofs.Common.{take, List}
use Rattle.std.specs.Prelude.{◌↔◌}
use Rattle.std.specs.List.{All, AllZip}
use Rattle.data_theory.specs.Provable.{Equation}
use Rattle.data_theory.specs.Signature.{Sig}
use Rattle.data_theory.specs.Terms.{Term}
use Rattle.term_pool.specs.Pools.{Extends}
use Rattle.data_rewriter.specs.Simplifying.{AreWellFormed}
use Rattle.data_rewriter.specs.Standing.{IsTerm}
use Rattle.lps_sumelm.specs.SummandsInCode.{IsTermAnswer}
use Rattle.lps_sumelm.proofs.simplifying.simplify_all.Given as goal

abbrev pub invariant-loop-term : goal.invariant-loop-term
invariant-loop-term g l = record {
  kept : Extends l.fn.pool.trees l.pool.trees;
  fitting : (sig : Sig) (own : List Equation) → g.S.Simplifier.fits l.fn.simp sig own l.fn.pool.trees → All (IsTerm sig l.fn.pool.trees) l.terms → g.S.Simplifier.fits l.simp sig own l.pool.trees;
  same : (sig : Sig) (own : List Equation) (t : Term) → g.S.Simplifier.simple l.simp sig own t ↔ g.S.Simplifier.simple l.fn.simp sig own t;
  answers : (sig : Sig) (own : List Equation) → g.S.Simplifier.fits l.fn.simp sig own l.fn.pool.trees → All (IsTerm sig l.fn.pool.trees) l.terms → AreWellFormed sig own → AllZip (IsTermAnswer sig own (g.S.Simplifier.simple l.fn.simp sig own) l.fn.pool.trees l.pool.trees) (take l.term-index l.terms) l.made.items;
}
