use Rattle.process_terms.specs.PlainProcesses.{plain_model}
use Rattle.proc_unfold.specs.ParallelMarks.{IsLeastWithin}
use Rattle.proc_unfold.proofs.outside.first_within.Given as goal

abbrev pub invariant-loop-place : goal.invariant-loop-place
invariant-loop-place l = IsLeastWithin (plain_model l.model) l.calls.reached.items l.parallel l.place l.first
