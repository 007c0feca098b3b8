use Rattle.std.proofs.Common.{◌≤◌, ◌+◌, length, map}
use Rattle.std.specs.List.{All}
use Rattle.data_theory.specs.IdTerms.{IsTreeWithin}
use Rattle.term_pool.specs.Pools.{Extends}
use Rattle.trace_replay.specs.Lines.{lines_of}
use Rattle.aut_check.specs.LineParts.{counts_of}
use Rattle.aut_check.specs.PlainSystems.{plain_edge}
use Rattle.aut_check.proofs.ReadEdges.{EdgesTo}
use Rattle.aut_check.proofs.aut_reading.read_edges.Given as goal

abbrev pub invariant-loop-rest : goal.invariant-loop-rest
invariant-loop-rest l = record {
  kept : Extends l.fn.pool.trees l.pool.trees;
  trees : All (IsTreeWithin l.sig) l.pool.trees;
  read : EdgesTo l.sig l.pool.trees (counts_of l.counts) l.first (lines_of l.text) l.number (lines_of l.rest) (map plain_edge l.edges.items);
  few : l.number + length l.rest ≤ l.first + length l.text;
}

abbrev pub decreases-loop-rest : goal.decreases-loop-rest
decreases-loop-rest l = length l.rest
