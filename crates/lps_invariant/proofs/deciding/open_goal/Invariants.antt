use Rattle.std.proofs.Common.{List}
use Rattle.data_theory.specs.Provable.{Equation}
use Rattle.data_rewriter.specs.Rewriters.{Fits}
use Rattle.lps_invariant.specs.Keeping.{Keeps}
use Rattle.lps_invariant.specs.PlacesInCode.{place_at}
use Rattle.lps_invariant.proofs.DecidedTerms.{FirstAreProved}
use Rattle.lps_invariant.proofs.deciding.open_goal.Given as goal

abbrev pub invariant-loop-number : goal.invariant-loop-number
invariant-loop-number g l = record {
  kept : Keeps l.sig l.fn.pool.trees l.pool.trees l.fn.rewriter l.rewriter;
  proved : (own : List Equation) → Fits l.fn.rewriter l.sig own l.fn.pool.trees → FirstAreProved l.sig own l.fuel (place_at l.sig l.fn.pool.trees l.place) l.number;
}
