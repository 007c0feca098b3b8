use Rattle.std.proofs.Common.{◌≡◌, None, map, take}
use Rattle.mcrl2_syntax.specs.ProcessTrees.{plain_process, processes_of}
use Rattle.sort_checker.specs.RenamedTrees.{again_in_processes}
use Rattle.sort_checker.proofs.renamings.+renames.Given as goal

abbrev pub invariant-again_in_processes-loop-process : goal.invariant-again_in_processes-loop-process
invariant-again_in_processes-loop-process l = again_in_processes (processes_of (map plain_process (take l.process-index l.processes))) ≡ None
