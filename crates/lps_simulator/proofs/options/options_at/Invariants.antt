use Rattle.std.proofs.Common.{◌≡◌, List, map, take}
use Rattle.data_theory.specs.Provable.{Equation}
use Rattle.term_pool.specs.Pools.{Extends}
use Rattle.data_rewriter.specs.Rewriters.{Fits as FitsPool, number_rules}
use Rattle.data_rewriter.specs.Simplifying.{AreWellFormed}
use Rattle.lps_core.specs.PlainLinears.{plain_linear, plain_summand}
use Rattle.lps_simulator.specs.OptionsInCode.{plain_options}
use Rattle.lps_simulator.proofs.TriedSummands.{SomeOptions}
use Rattle.lps_simulator.proofs.options.options_at.Given as goal

abbrev pub invariant-loop-index : goal.invariant-loop-index
invariant-loop-index g l = record {
  kept : Extends l.fn.pool.trees l.pool.trees;
  rules : number_rules l.rewriter ≡ number_rules l.fn.rewriter;
  fits : (own : List Equation) → FitsPool l.fn.rewriter l.sig own l.fn.pool.trees → FitsPool l.rewriter l.sig own l.pool.trees;
  found : (own : List Equation) → FitsPool l.fn.rewriter l.sig own l.fn.pool.trees → AreWellFormed l.sig own
      → SomeOptions l.sig own l.fuel l.bound l.fn.pool.trees l.pool.trees (plain_linear l.lin) l.state (map plain_summand (take l.index l.lin.summands.items)) (plain_options l.found);
}
