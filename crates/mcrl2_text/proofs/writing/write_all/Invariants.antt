use Rattle.std.proofs.Common.{length, ◌-◌, ◌≡◌, ◌≤◌, ◌++◌, Some, IfSome, take}
use Rattle.mcrl2_text.specs.Calls.{WritesOn}
use Rattle.mcrl2_text.proofs.writing.write_all.Given as goal

abbrev pub invariant-loop-at : goal.invariant-loop-at
invariant-loop-at g l =
    (l.at ≤ length l.piece)
    × IfSome (g.O.Sink.taken l.fn.sink) (λ before. g.O.Sink.taken l.sink ≡ Some (before ++ take l.at l.piece))
    × (g.O.Sink.faults l.fn.sink ≤ g.O.Sink.faults l.sink)
    × WritesOn g.O.Sink.writes l.fn.sink l.piece l.at l.sink

abbrev pub decreases-loop-at : goal.decreases-loop-at
decreases-loop-at g l = length l.piece - l.at
