use Rattle.std.proofs.Common.{◌≤◌, ◌+◌, length, map}
use Rattle.std.specs.List.{All}
use Rattle.data_theory.specs.IdTerms.{IsTreeWithin}
use Rattle.lps_core.specs.PlainLinears.{plain_next}
use Rattle.term_pool.specs.Pools.{Extends}
use Rattle.trace_replay.specs.Lines.{lines_of}
use Rattle.aut_check.proofs.ReadStates.{StatesTo}
use Rattle.aut_check.proofs.state_reading.read_states.Given as goal

abbrev pub invariant-loop-rest : goal.invariant-loop-rest
invariant-loop-rest l = record {
  kept : Extends l.fn.pool.trees l.pool.trees;
  trees : All (IsTreeWithin l.sig) l.pool.trees;
  read : StatesTo l.sig l.pool.trees l.sorts l.count (lines_of l.text) l.number (lines_of l.rest) (map plain_next l.states.items);
  few : l.number + length l.rest ≤ length l.text + 1;
}

abbrev pub decreases-loop-rest : goal.decreases-loop-rest
decreases-loop-rest l = length l.rest
