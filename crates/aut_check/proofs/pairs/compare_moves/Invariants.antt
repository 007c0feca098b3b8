use Rattle.std.proofs.Common.{List, map, take}
use Rattle.data_theory.specs.Provable.{Equation}
use Rattle.data_rewriter.specs.Rewriters.{Fits as FitsPool}
use Rattle.lps_core.specs.PlainLinears.{plain_linear}
use Rattle.lps_simulator.specs.OptionsInCode.{meant_move, plain_move}
use Rattle.trace_replay.specs.Keeping.{Keeps}
use Rattle.aut_check.specs.Comparing.{setting, AreMoveRows}
use Rattle.aut_check.specs.PlainSystems.{plain_system}
use Rattle.aut_check.specs.Tables.{tables_of}
use Rattle.aut_check.specs.Verdicts.{sorts_in}
use Rattle.aut_check.proofs.pairs.compare_moves.Given as goal

abbrev pub invariant-loop-step : goal.invariant-loop-step
invariant-loop-step g l = record {
  kept : Keeps l.sig l.fn.pool.trees l.pool.trees l.fn.rewriter l.rewriter;
  so_far : (own : List Equation) → FitsPool l.fn.rewriter l.sig own l.fn.pool.trees
      → AreMoveRows (setting l.sig own l.fuel) (sorts_in (setting l.sig own l.fuel) l.fn.pool.trees (plain_linear l.lin)) l.fn.pool.trees (plain_system l.lts) l.edges (map (meant_move l.sig l.fn.pool.trees) (map plain_move (take l.step-index l.moves))) (tables_of l.rows.items);
}
