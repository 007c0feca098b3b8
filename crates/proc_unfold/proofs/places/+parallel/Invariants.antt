use Rattle.std.proofs.Common.{◌≡◌, false, map, take}
use Rattle.process_terms.specs.PlainProcesses.{plain_process, processes_of}
use Rattle.proc_unfold.specs.ParallelTests.{any_parallel}
use Rattle.proc_unfold.proofs.places.+parallel.Given as goal

abbrev pub invariant-any_parallel-loop-part : goal.invariant-any_parallel-loop-part
invariant-any_parallel-loop-part l = any_parallel (processes_of (map plain_process (take l.part-index l.parts))) ≡ false
