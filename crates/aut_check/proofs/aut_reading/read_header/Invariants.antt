use Rattle.std.proofs.Common.{◌≤◌, ◌+◌, length}
use Rattle.trace_replay.specs.Lines.{lines_of}
use Rattle.aut_check.proofs.ReadEdges.{HeaderTo}
use Rattle.aut_check.proofs.aut_reading.read_header.Given as goal

abbrev pub invariant-loop-rest : goal.invariant-loop-rest
invariant-loop-rest l = record {
  read : HeaderTo (lines_of l.text) l.number (lines_of l.rest);
  few : l.number + length l.rest ≤ length l.text + 1;
}

abbrev pub decreases-loop-rest : goal.decreases-loop-rest
decreases-loop-rest l = length l.rest
