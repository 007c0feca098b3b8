use Rattle.std.proofs.Common.{◌≡◌, ◌++◌, List, map, length}
use Rattle.data_theory.specs.declared.ids.TermId.{TermId}
use Rattle.data_theory.specs.Provable.{Equation}
use Rattle.term_pool.specs.Pools.{Extends}
use Rattle.data_rewriter.specs.Rewriters.{Fits as FitsPool, number_rules}
use Rattle.data_rewriter.specs.Simplifying.{AreWellFormed}
use Rattle.lps_core.specs.PlainLinears.{plain_linear, plain_summand}
use Rattle.lps_simulator.specs.Combinations.{combinations, rows}
use Rattle.lps_simulator.specs.OptionsInCode.{plain_move}
use Rattle.lps_simulator.specs.Trying.{SumsAreTried}
use Rattle.lps_simulator.proofs.options.try_summand.Given as goal

abbrev pub invariant-loop-combinations : goal.invariant-loop-combinations
invariant-loop-combinations g l = record {
  kept : Extends l.fn.pool.trees l.pool.trees;
  rules : number_rules l.rewriter ≡ number_rules l.fn.rewriter;
  fits : (own : List Equation) → FitsPool l.fn.rewriter l.sig own l.fn.pool.trees → FitsPool l.rewriter l.sig own l.pool.trees;
  left : (done : List (List TermId)) × (combinations (rows l.fn.lists.items) ≡ done ++ l.combinations);
  tried : (own : List Equation) → FitsPool l.fn.rewriter l.sig own l.fn.pool.trees → AreWellFormed l.sig own
      → SumsAreTried l.sig own l.fuel l.fn.pool.trees l.pool.trees (plain_linear l.lin) l.state l.number (plain_summand l.summand) (combinations (rows l.fn.lists.items)) l.combinations (map plain_move l.fn.moves.items) (map plain_move l.moves.items) l.why;
}

abbrev pub decreases-loop-combinations : goal.decreases-loop-combinations
decreases-loop-combinations g l = length l.combinations
