use Rattle.std.proofs.Common.{List, take}
use Rattle.data_theory.specs.Provable.{Equation}
use Rattle.data_rewriter.specs.Rewriters.{Fits}
use Rattle.data_rewriter.specs.Standing.{listed_at}
use Rattle.lps_invariant.specs.Judging.{AreAnswered}
use Rattle.lps_invariant.specs.Keeping.{Keeps}
use Rattle.lps_invariant.proofs.deciding.answers.Given as goal

abbrev pub invariant-loop-number : goal.invariant-loop-number
invariant-loop-number g l = record {
  kept : Keeps l.sig l.fn.pool.trees l.pool.trees l.fn.rewriter l.rewriter;
  answered : (own : List Equation) → Fits l.fn.rewriter l.sig own l.fn.pool.trees → AreAnswered l.sig own l.fuel l.pool.trees (listed_at l.sig l.fn.pool.trees (take l.number l.place.hypotheses.items)) l.truths.items;
}
