use Rattle.std.proofs.Common.{◌≡◌, List, map, take}
use Rattle.data_theory.specs.Provable.{Equation}
use Rattle.data_theory.specs.IdData.{data_meant}
use Rattle.term_pool.specs.Pools.{Extends}
use Rattle.data_rewriter.specs.Rewriters.{Fits, number_rules}
use Rattle.lps_simulator.specs.LeadingParts.{instance_at, AllGoToTrue}
use Rattle.lps_simulator.proofs.rewriting.failing_part.Given as goal

abbrev pub invariant-loop-place : goal.invariant-loop-place
invariant-loop-place g l = record {
  kept : Extends l.fn.pool.trees l.pool.trees;
  rules : number_rules l.rewriter ≡ number_rules l.fn.rewriter;
  fits : (own : List Equation) → Fits l.fn.rewriter l.sig own l.fn.pool.trees → Fits l.rewriter l.sig own l.pool.trees;
  hold : (own : List Equation) → Fits l.fn.rewriter l.sig own l.fn.pool.trees → AllGoToTrue (data_meant l.sig) own (map (instance_at l.sig l.fn.pool.trees l.by) (take l.place l.parts));
}
