use Rattle.std.proofs.Common.{◌≡◌, List, take}
use Rattle.data_theory.specs.Provable.{Equation}
use Rattle.data_rewriter.specs.Rewriters.{Fits as FitsPool, number_rules}
use Rattle.data_rewriter.specs.Simplifying.{AreWellFormed}
use Rattle.term_pool.specs.Pools.{Extends}
use Rattle.lps_core.specs.PlainLinears.{plain_next}
use Rattle.lps_simulator.specs.Sessions.{session_linear, session_state, SessionFits}
use Rattle.chosen_moves.specs.ChosenMoves.{picks_of}
use Rattle.chosen_moves.proofs.ChosenMoves.{Taken}
use Rattle.chosen_moves.proofs.following.take_all.Given as goal

abbrev pub invariant-loop-choice : goal.invariant-loop-choice
invariant-loop-choice g l = record {
  kept : Extends l.fn.pool.trees l.pool.trees;
  rules : number_rules l.rewriter ≡ number_rules l.fn.rewriter;
  fits : (own : List Equation) → FitsPool l.fn.rewriter l.sig own l.fn.pool.trees → FitsPool l.rewriter l.sig own l.pool.trees;
  linear : session_linear l.session ≡ session_linear l.fn.session;
  session : SessionFits l.sig l.pool.trees l.session;
  state : plain_next l.state ≡ session_state l.session;
  taken : (own : List Equation) → FitsPool l.fn.rewriter l.sig own l.fn.pool.trees → AreWellFormed l.sig own
      → Taken l.sig own l.fuel l.bound (session_linear l.fn.session) l.fn.pool.trees (session_state l.fn.session) (picks_of (take l.choice-index l.choices)) l.pool.trees (session_state l.session);
}
