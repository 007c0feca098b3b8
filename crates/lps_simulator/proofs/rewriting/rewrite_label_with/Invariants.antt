use Rattle.std.proofs.Common.{◌≡◌, List, take, map}
use Rattle.std.specs.List.{AllZip}
use Rattle.data_theory.specs.Provable.{Equation}
use Rattle.term_pool.specs.Pools.{Extends}
use Rattle.data_rewriter.specs.Rewriters.{Fits, number_rules}
use Rattle.process_terms.specs.PlainProcesses.{plain_action}
use Rattle.lps_simulator.specs.Rewritten.{environment_of, IsRewrittenAction}
use Rattle.lps_simulator.proofs.rewriting.rewrite_label_with.Given as goal

abbrev pub invariant-loop-action : goal.invariant-loop-action
invariant-loop-action g l = record {
  kept : Extends l.fn.pool.trees l.pool.trees;
  rules : number_rules l.rewriter ≡ number_rules l.fn.rewriter;
  fits : (own : List Equation) → Fits l.fn.rewriter l.sig own l.fn.pool.trees → Fits l.rewriter l.sig own l.pool.trees;
  rewritten : (own : List Equation) → Fits l.fn.rewriter l.sig own l.fn.pool.trees → AllZip (IsRewrittenAction l.sig own l.fuel (environment_of l.sig l.fn.pool.trees l.by) l.fn.pool.trees l.pool.trees) (map plain_action (take l.action-index l.action-items)) (map plain_action l.actions.items);
}
