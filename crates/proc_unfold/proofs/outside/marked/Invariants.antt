use Rattle.std.proofs.Common.{◌<◌, ◌↔◌, ℕ}
use Rattle.std.specs.List.{Contains}
use Rattle.graphs.specs.Graphs.{IsMarked}
use Rattle.proc_unfold.proofs.outside.marked.Given as goal

abbrev pub invariant-loop-place : goal.invariant-loop-place
invariant-loop-place l = (x : ℕ) → Contains l.places.items x ↔ ((x < l.place) × IsMarked l.marks x)
