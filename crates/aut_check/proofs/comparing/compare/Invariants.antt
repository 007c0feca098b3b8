use Rattle.std.proofs.Common.{List}
use Rattle.data_theory.specs.Provable.{Equation}
use Rattle.data_rewriter.specs.Rewriters.{Fits as FitsPool}
use Rattle.data_rewriter.specs.Simplifying.{AreWellFormed}
use Rattle.lps_core.specs.PlainLinears.{plain_linear}
use Rattle.aut_check.specs.Comparing.{setting}
use Rattle.trace_replay.specs.Keeping.{Keeps}
use Rattle.aut_check.specs.PlainSystems.{plain_system}
use Rattle.aut_check.proofs.JudgedStates.{AreGoodBelow}
use Rattle.aut_check.proofs.comparing.compare.Given as goal

abbrev pub invariant-loop-number : goal.invariant-loop-number
invariant-loop-number g l = record {
  kept : Keeps l.sig l.fn.pool.trees l.pool.trees l.fn.rewriter l.rewriter;
  good : (own : List Equation) → FitsPool l.fn.rewriter l.sig own l.fn.pool.trees → AreWellFormed l.sig own → AreGoodBelow (setting l.sig own l.fuel) l.fn.pool.trees (plain_linear l.lin) (plain_system l.lts) l.number;
}
