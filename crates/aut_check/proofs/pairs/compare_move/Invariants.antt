use Rattle.std.proofs.Common.{List, take}
use Rattle.data_theory.specs.Provable.{Equation}
use Rattle.data_rewriter.specs.Rewriters.{Fits as FitsPool}
use Rattle.lps_core.specs.PlainLinears.{plain_linear}
use Rattle.lps_simulator.specs.OptionsInCode.{meant_move, plain_move}
use Rattle.trace_replay.specs.Keeping.{Keeps}
use Rattle.aut_check.specs.Comparing.{setting, IsMoveRow}
use Rattle.aut_check.specs.PlainSystems.{plain_system}
use Rattle.aut_check.specs.Tables.{answers_of}
use Rattle.aut_check.specs.Verdicts.{sorts_in}
use Rattle.aut_check.proofs.pairs.compare_move.Given as goal

abbrev pub invariant-loop-number : goal.invariant-loop-number
invariant-loop-number g l = record {
  kept : Keeps l.sig l.fn.pool.trees l.pool.trees l.fn.rewriter l.rewriter;
  so_far : (own : List Equation) → FitsPool l.fn.rewriter l.sig own l.fn.pool.trees
      → IsMoveRow (setting l.sig own l.fuel) (sorts_in (setting l.sig own l.fuel) l.fn.pool.trees (plain_linear l.lin)) l.fn.pool.trees (plain_system l.lts) (take l.number-index l.edges) (meant_move l.sig l.fn.pool.trees (plain_move l.step)) (answers_of l.row.items);
}
