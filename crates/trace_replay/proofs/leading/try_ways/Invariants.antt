use Rattle.std.proofs.Common.{List, map, take}
use Rattle.data_theory.specs.Provable.{Equation}
use Rattle.data_rewriter.specs.Rewriters.{Fits as FitsPool}
use Rattle.data_rewriter.specs.Standing.{term_at}
use Rattle.process_terms.specs.SignatureEntries.{entries_of}
use Rattle.lps_core.specs.PlainLinears.{plain_linear, linear_of}
use Rattle.trace_replay.specs.Attempts.{AreTried}
use Rattle.trace_replay.specs.DecidedConditions.{setting}
use Rattle.trace_replay.specs.Keeping.{Keeps}
use Rattle.trace_replay.specs.States.{meant_states, StatesStand}
use Rattle.trace_replay.specs.Ways.{plain_way, OfWays}
use Rattle.trace_replay.proofs.leading.try_ways.Given as goal

abbrev pub invariant-loop-way : goal.invariant-loop-way
invariant-loop-way g l = record {
  kept : Keeps l.sig l.fn.pool.trees l.pool.trees l.fn.rewriter l.rewriter;
  states : StatesStand l.sig l.pool.trees l.to;
  tried : (own : List Equation) → FitsPool l.fn.rewriter l.sig own l.fn.pool.trees
      → AreTried (setting l.sig own l.fuel l.bound)
      (OfWays l.sig l.fn.pool.trees (setting l.sig own l.fuel l.bound) (linear_of (entries_of l.sig l.fn.pool.trees) (plain_linear l.lin)) (map (term_at l.sig l.fn.pool.trees) l.state) (map plain_way (take l.way-index l.ways)))
      (meant_states l.sig l.fn.pool.trees l.fn.to) (meant_states l.sig l.pool.trees l.to) l.doubt;
}
