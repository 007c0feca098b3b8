use Rattle.std.proofs.Common.{◌≡◌, None, map, take}
use Rattle.mcrl2_syntax.specs.ProcessTrees.{plain_process, processes_of}
use Rattle.sort_table.specs.IndexedKinds.{kinds_of_index}
use Rattle.sort_table.specs.UsedNames.{unknown_among, names_of_all_sums}
use Rattle.sort_table.proofs.unknown_sorts.+sums.Given as goal

abbrev pub invariant-unknown_in_processes-loop-process : goal.invariant-unknown_in_processes-loop-process
invariant-unknown_in_processes-loop-process l = unknown_among (kinds_of_index l.index) (names_of_all_sums (processes_of (map plain_process (take l.process-index l.processes)))) ≡ None
