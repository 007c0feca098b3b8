use Rattle.std.proofs.Common.{◌≡◌, false, map, take}
use Rattle.mcrl2_syntax.specs.ProcessTrees.{plain_process, processes_of}
use Rattle.sort_table.specs.RepeatedVariables.{all_sums_twice}
use Rattle.sort_table.proofs.repeated_variables.+sums.Given as goal

abbrev pub invariant-repeats_in_processes-loop-process : goal.invariant-repeats_in_processes-loop-process
invariant-repeats_in_processes-loop-process l = all_sums_twice (processes_of (map plain_process (take l.process-index l.processes))) ≡ false
