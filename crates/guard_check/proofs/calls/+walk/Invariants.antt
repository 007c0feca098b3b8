use Rattle.std.proofs.Common.{◌≡◌, ◌++◌, map, take}
use Rattle.process_terms.specs.PlainProcesses.{plain_process, processes_of}
use Rattle.guard_check.specs.CallGraphs.{all_calls}
use Rattle.guard_check.proofs.calls.+walk.Given as goal

abbrev pub invariant-add_all_calls-loop-part : goal.invariant-add_all_calls-loop-part
invariant-add_all_calls-loop-part l = l.found.items ≡ l.initial.found.items ++ all_calls l.extent (processes_of (map plain_process (take l.part-index l.parts)))
