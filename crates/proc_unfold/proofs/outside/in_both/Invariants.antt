use Rattle.proc_unfold.specs.ParallelMarks.{MarksBoth}
use Rattle.proc_unfold.proofs.outside.in_both.Given as goal

abbrev pub invariant-loop-place : goal.invariant-loop-place
invariant-loop-place l = MarksBoth l.left l.right l.place l.both.items
