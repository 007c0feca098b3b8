use Rattle.std.proofs.Common.{◌≡◌, ◌++◌, map, take}
use Rattle.mcrl2_syntax.specs.ProcessTrees.{plain_process, processes_of}
use Rattle.sort_table.specs.Identifiers.{in_processes}
use Rattle.sort_table.specs.LentTexts.{texts_of}
use Rattle.sort_table.proofs.identifiers.+processes.Given as goal

abbrev pub invariant-add_processes-loop-process : goal.invariant-add_processes-loop-process
invariant-add_processes-loop-process l = texts_of l.list.items ≡ texts_of l.fn.list.items ++ in_processes (processes_of (map plain_process (take l.process-index l.processes)))
