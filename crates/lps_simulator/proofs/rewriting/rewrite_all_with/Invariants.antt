use Rattle.std.proofs.Common.{◌≡◌, List, take}
use Rattle.std.specs.List.{AllZip}
use Rattle.data_theory.specs.Provable.{Equation}
use Rattle.term_pool.specs.Pools.{Extends}
use Rattle.data_rewriter.specs.Rewriters.{Fits, number_rules}
use Rattle.lps_simulator.specs.Rewritten.{environment_of, IsRewrittenTerm}
use Rattle.lps_simulator.proofs.rewriting.rewrite_all_with.Given as goal

abbrev pub invariant-loop-term : goal.invariant-loop-term
invariant-loop-term g l = record {
  kept : Extends l.fn.pool.trees l.pool.trees;
  rules : number_rules l.rewriter ≡ number_rules l.fn.rewriter;
  fits : (own : List Equation) → Fits l.fn.rewriter l.sig own l.fn.pool.trees → Fits l.rewriter l.sig own l.pool.trees;
  rewritten : (own : List Equation) → Fits l.fn.rewriter l.sig own l.fn.pool.trees → AllZip (IsRewrittenTerm l.sig own l.fuel (environment_of l.sig l.fn.pool.trees l.by) l.fn.pool.trees l.pool.trees) (take l.term-index l.terms) l.made.items;
}
