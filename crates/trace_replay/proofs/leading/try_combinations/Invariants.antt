use Rattle.std.proofs.Common.{◌≡◌, ◌++◌, ℕ, List, map, length}
use Rattle.data_theory.specs.declared.ids.TermId.{TermId}
use Rattle.data_theory.specs.Provable.{Equation}
use Rattle.data_rewriter.specs.Rewriters.{Fits as FitsPool}
use Rattle.data_rewriter.specs.Standing.{term_at}
use Rattle.process_terms.specs.SignatureEntries.{entries_of}
use Rattle.lps_core.specs.PlainLinears.{plain_linear, plain_summand, linear_of, summand_of}
use Rattle.lps_simulator.specs.Combinations.{combinations, rows}
use Rattle.trace_replay.specs.Attempts.{AreTried, OfCombinations}
use Rattle.trace_replay.specs.DecidedConditions.{setting}
use Rattle.trace_replay.specs.Keeping.{Keeps}
use Rattle.trace_replay.specs.States.{meant_states, StatesStand}
use Rattle.trace_replay.proofs.leading.try_combinations.Given as goal

abbrev pub invariant-loop-combinations : goal.invariant-loop-combinations
invariant-loop-combinations g l = record {
  kept : Keeps l.sig l.fn.pool.trees l.pool.trees l.fn.rewriter l.rewriter;
  states : StatesStand l.sig l.pool.trees l.to;
  done : List (List TermId);
  left : combinations (rows l.fn.lists.items) ≡ done ++ l.combinations;
  tried : (own : List Equation) (bound : ℕ) → FitsPool l.fn.rewriter l.sig own l.fn.pool.trees
      → AreTried (setting l.sig own l.fuel bound)
      (OfCombinations (linear_of (entries_of l.sig l.fn.pool.trees) (plain_linear l.lin)) (summand_of (entries_of l.sig l.fn.pool.trees) (plain_summand l.summand)) (map (term_at l.sig l.fn.pool.trees) l.state) (map (term_at l.sig l.fn.pool.trees) l.conditions) (map (map (term_at l.sig l.fn.pool.trees)) done))
      (meant_states l.sig l.fn.pool.trees l.fn.to) (meant_states l.sig l.pool.trees l.to) l.doubt;
}

abbrev pub decreases-loop-combinations : goal.decreases-loop-combinations
decreases-loop-combinations g l = length l.combinations
