use Rattle.std.proofs.Common.{ℕ, List, take}
use Rattle.data_theory.specs.Provable.{Equation}
use Rattle.data_rewriter.specs.Rewriters.{Fits}
use Rattle.trace_replay.specs.DecidedConditions.{conditions_with, setting}
use Rattle.trace_replay.specs.Keeping.{Keeps}
use Rattle.trace_replay.proofs.ConditionLemmas.{HaveNoNo}
use Rattle.trace_replay.proofs.deciding.decide_all.Given as goal

abbrev pub invariant-loop-condition : goal.invariant-loop-condition
invariant-loop-condition g l = record {
  kept : Keeps l.sig l.fn.pool.trees l.pool.trees l.fn.rewriter l.rewriter;
  so_far : (own : List Equation) (bound : ℕ) → Fits l.fn.rewriter l.sig own l.fn.pool.trees → HaveNoNo (setting l.sig own l.fuel bound) (conditions_with l.sig l.fn.pool.trees l.by (take l.condition-index l.conditions)) l.is_open;
}
