use Rattle.std.proofs.Common.{◌≡◌, map, take}
use Rattle.process_terms.specs.PlainProcesses.{plain_process}
use Rattle.process_terms.proofs.processes.+copy.Given as goal

abbrev pub invariant-copy_all-loop-part : goal.invariant-copy_all-loop-part
invariant-copy_all-loop-part l = map plain_process l.copies.items ≡ map plain_process (take l.part-index l.parts)
