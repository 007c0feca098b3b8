use Rattle.std.proofs.Common.{◌≤◌, ◌+◌, length}
use Rattle.trace_replay.specs.Lines.{lines_of}
use Rattle.chosen_moves.proofs.ReadingLemmas.{ReadsTo}
use Rattle.chosen_moves.proofs.choices.read_choices.Given as goal

abbrev pub invariant-loop-rest : goal.invariant-loop-rest
invariant-loop-rest l = record {
  read : ReadsTo (lines_of l.text) l.line (lines_of l.rest) l.choices.items;
  few : l.line + length l.rest ≤ length l.text + 1;
}

abbrev pub decreases-loop-rest : goal.decreases-loop-rest
decreases-loop-rest l = length l.rest
