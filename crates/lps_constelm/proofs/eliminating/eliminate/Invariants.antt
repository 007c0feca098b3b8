use Rattle.std.proofs.Common.{List, length}
use Rattle.std.specs.Prelude.{◌↔◌}
use Rattle.data_theory.specs.Provable.{Equation}
use Rattle.data_theory.specs.Signature.{Sig}
use Rattle.data_theory.specs.Terms.{Term}
use Rattle.data_theory.specs.WholeSignatures.{IsSignature}
use Rattle.term_pool.specs.Pools.{Extends}
use Rattle.data_rewriter.specs.Simplifying.{AreWellFormed}
use Rattle.lps_core.specs.Fitting.{Fits}
use Rattle.lps_core.specs.PlainLinears.{plain_linear}
use Rattle.lps_constelm.proofs.WholeRounds.{IsSoFar}
use Rattle.lps_constelm.proofs.eliminating.eliminate.Given as goal

abbrev pub invariant-loop-alloc : goal.invariant-loop-alloc
invariant-loop-alloc g l = record {
  kept : Extends l.fn.pool.trees l.pool.trees;
  fitting : (sig : Sig) (own : List Equation) → IsSignature sig → Fits sig l.fn.pool.trees (plain_linear l.lin) → g.S.Simplifier.fits l.fn.simp sig own l.fn.pool.trees → AreWellFormed sig own → g.S.Simplifier.fits l.simp sig own l.pool.trees;
  same : (sig : Sig) (own : List Equation) (t : Term) → g.S.Simplifier.simple l.simp sig own t ↔ g.S.Simplifier.simple l.fn.simp sig own t;
  so_far : (sig : Sig) (own : List Equation) → IsSignature sig → Fits sig l.fn.pool.trees (plain_linear l.lin) → g.S.Simplifier.fits l.fn.simp sig own l.fn.pool.trees → AreWellFormed sig own
      → IsSoFar sig own (g.S.Simplifier.simple l.fn.simp sig own) l.fn.pool.trees l.pool.trees (plain_linear l.lin) (plain_linear l.round.lin) l.round.marks.items;
}

abbrev pub decreases-loop-alloc : goal.decreases-loop-alloc
decreases-loop-alloc g l = length l.round.lin.params.items
