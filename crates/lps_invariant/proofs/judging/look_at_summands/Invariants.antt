use Rattle.std.proofs.Common.{List, map, take}
use Rattle.data_theory.specs.declared.ids.TermId.{TermId}
use Rattle.data_theory.specs.Provable.{Equation}
use Rattle.data_theory.specs.IdTrees.{Tree}
use Rattle.data_rewriter.specs.Rewriters.{Fits}
use Rattle.lps_core.specs.PlainLinears.{plain_linear, plain_summand}
use Rattle.lps_invariant.specs.Judging.{plain_truths}
use Rattle.lps_invariant.specs.JudgingInCode.{IsAskedOf}
use Rattle.lps_invariant.specs.Keeping.{Keeps}
use Rattle.lps_invariant.proofs.JudgedSummands.{AreSiftedSoFar}
use Rattle.lps_invariant.proofs.judging.look_at_summands.Given as goal

abbrev pub invariant-loop-index : goal.invariant-loop-index
invariant-loop-index g l = record {
  kept : Keeps l.sig l.fn.pool.trees l.pool.trees l.fn.rewriter l.rewriter;
  sifted : (own : List Equation) → Fits l.fn.rewriter l.sig own l.fn.pool.trees → (ts : List Tree) (inv : TermId) → IsAskedOf l.sig ts l.fn.pool.trees (plain_linear l.lin) inv l.invariant'
      → AreSiftedSoFar l.sig own l.fuel ts l.pool.trees (plain_linear l.lin) inv (map plain_summand (take l.index l.lin.summands.items)) (map plain_summand l.left.summands.items) (plain_truths l.left.truths.items);
}
