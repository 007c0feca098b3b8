use Rattle.std.proofs.Common.{◌≡◌, ◌++◌, map, take}
use Rattle.std.specs.List.{flat_map}
use Rattle.mcrl2_syntax.specs.ProcessTrees.{plain_process, processes_of}
use Rattle.sort_table.specs.BareProcesses.{bare_processes, sums_in_all}
use Rattle.sort_table.specs.Built.{sorts_of_variables}
use Rattle.sort_table.specs.LentTrees.{expressions_of}
use Rattle.sort_table.proofs.sort_trees.+sums.Given as goal

abbrev pub invariant-add_processes-loop-process : goal.invariant-add_processes-loop-process
invariant-add_processes-loop-process l = expressions_of l.list.items ≡ expressions_of l.fn.list.items ++ flat_map sorts_of_variables (sums_in_all (bare_processes (processes_of (map plain_process (take l.process-index l.processes)))))
