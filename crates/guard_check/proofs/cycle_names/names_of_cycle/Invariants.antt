use Rattle.std.proofs.Common.{map, take}
use Rattle.process_terms.specs.PlainProcesses.{plain_definition}
use Rattle.guard_check.specs.Guards.{AreNamesOf}
use Rattle.guard_check.proofs.cycle_names.names_of_cycle.Given as goal

abbrev pub invariant-loop-process : goal.invariant-loop-process
invariant-loop-process l = AreNamesOf (map plain_definition l.definitions) (take l.process-index l.cycle) l.names.items
