use Rattle.std.proofs.Common.{◌≡◌, true, map, take}
use Rattle.process_terms.specs.PlainProcesses.{plain_process, processes_of}
use Rattle.proc_unfold.specs.ParallelTests.{all_outside}
use Rattle.proc_unfold.proofs.places.+outside.Given as goal

abbrev pub invariant-all_outside-loop-part : goal.invariant-all_outside-loop-part
invariant-all_outside-loop-part l = all_outside l.marks (processes_of (map plain_process (take l.part-index l.parts))) ≡ true
