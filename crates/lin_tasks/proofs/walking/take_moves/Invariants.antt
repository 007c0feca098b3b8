use Rattle.std.proofs.Common.{◌≡◌, ◌≤◌, List}
use Rattle.data_theory.specs.Provable.{Equation}
use Rattle.data_rewriter.specs.Rewriters.{Fits as FitsPool, number_rules}
use Rattle.data_rewriter.specs.Simplifying.{AreWellFormed}
use Rattle.term_pool.specs.Pools.{Extends}
use Rattle.lps_simulator.specs.Sessions.{session_linear, session_state, SessionFits}
use Rattle.lps_simulator.specs.Walks.{chooser_of, word_of}
use Rattle.lin_tasks.proofs.WalkSteps.{HasWalkedSoFar}
use Rattle.lin_tasks.proofs.walking.take_moves.Given as goal

abbrev pub invariant-loop-taken : goal.invariant-loop-taken
invariant-loop-taken g l = record {
  below : l.taken ≤ l.plan.depth;
  kept : Extends l.fn.pool.trees l.pool.trees;
  rules : number_rules l.rewriter ≡ number_rules l.fn.rewriter;
  fits : (own : List Equation) → FitsPool l.fn.rewriter l.sig own l.fn.pool.trees → FitsPool l.rewriter l.sig own l.pool.trees;
  linear : session_linear l.session ≡ session_linear l.fn.session;
  session : SessionFits l.sig l.pool.trees l.session;
  chooser : chooser_of l.walk ≡ chooser_of l.fn.walk;
  walked : (own : List Equation) → FitsPool l.fn.rewriter l.sig own l.fn.pool.trees → AreWellFormed l.sig own
      → HasWalkedSoFar l.sig own l.plan (word_of l.fn.walk) (word_of l.walk) (session_linear l.fn.session) l.fn.pool.trees l.pool.trees (session_state l.fn.session) (session_state l.session) l.fn.text.items l.text.items l.taken;
}
