use Rattle.std.proofs.Common.{map, take, List}
use Rattle.std.specs.Prelude.{◌↔◌}
use Rattle.std.specs.List.{All}
use Rattle.data_theory.specs.Provable.{Equation}
use Rattle.data_theory.specs.Signature.{Sig}
use Rattle.data_theory.specs.Terms.{Term}
use Rattle.term_pool.specs.Pools.{Extends}
use Rattle.process_terms.specs.PlainProcesses.{plain_action}
use Rattle.data_rewriter.specs.Simplifying.{AreWellFormed}
use Rattle.lps_sumelm.specs.SummandsInCode.{AreActionAnswers, IsActionOver}
use Rattle.lps_sumelm.proofs.simplifying.simplify_label.Given as goal

abbrev pub invariant-loop-action : goal.invariant-loop-action
invariant-loop-action g l = record {
  kept : Extends l.fn.pool.trees l.pool.trees;
  fitting : (sig : Sig) (own : List Equation) → g.S.Simplifier.fits l.fn.simp sig own l.fn.pool.trees → All (IsActionOver sig l.fn.pool.trees) (map plain_action l.action-items) → g.S.Simplifier.fits l.simp sig own l.pool.trees;
  same : (sig : Sig) (own : List Equation) (t : Term) → g.S.Simplifier.simple l.simp sig own t ↔ g.S.Simplifier.simple l.fn.simp sig own t;
  answers : (sig : Sig) (own : List Equation) → g.S.Simplifier.fits l.fn.simp sig own l.fn.pool.trees → All (IsActionOver sig l.fn.pool.trees) (map plain_action l.action-items) → AreWellFormed sig own
      → AreActionAnswers sig own (g.S.Simplifier.simple l.fn.simp sig own) l.fn.pool.trees l.pool.trees (map plain_action (take l.action-index l.action-items)) (map plain_action l.actions.items);
}
