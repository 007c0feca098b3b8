use Rattle.std.proofs.Common.{◌≡◌, map, take}
use Rattle.process_terms.specs.PlainProcesses.{plain_process}
use Rattle.process_terms.specs.declared.definitions.ProcDef.{ProcDef}
use Rattle.proc_unfold.specs.ParallelTests.{has_parallel}
use Rattle.proc_unfold.proofs.outside.parallel_bodies.Given as goal

abbrev pub invariant-loop-definition : goal.invariant-loop-definition
invariant-loop-definition l = l.marks.items ≡ map (λ (d : ProcDef). has_parallel (plain_process d.body)) (take l.definition-index l.definitions)
