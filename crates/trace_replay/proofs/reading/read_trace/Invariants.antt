use Rattle.std.proofs.Common.{◌≤◌, ◌+◌, length, map}
use Rattle.std.specs.List.{All}
use Rattle.data_theory.specs.IdTerms.{IsTreeWithin}
use Rattle.sort_checker.specs.Additions.{GoesOn}
use Rattle.trace_replay.specs.Lines.{lines_of}
use Rattle.trace_replay.specs.ReadTraces.{plain_line}
use Rattle.trace_replay.proofs.ReadLemmas.{ReadsTo}
use Rattle.trace_replay.proofs.reading.read_trace.Given as goal

abbrev pub invariant-loop-rest : goal.invariant-loop-rest
invariant-loop-rest l = record {
  kept : GoesOn l.sig l.fn.pool l.sig l.pool;
  trees : All (IsTreeWithin l.sig) l.pool.trees;
  read : ReadsTo l.sig l.pool.trees (lines_of l.trace) l.number (lines_of l.rest) (map plain_line l.lines.items);
  few : l.number + length l.rest ≤ length l.trace + 1;
}

abbrev pub decreases-loop-rest : goal.decreases-loop-rest
decreases-loop-rest l = length l.rest
