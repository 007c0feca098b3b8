use Rattle.std.proofs.Common.{◌≡◌, ◌++◌, map, take}
use Rattle.mcrl2_syntax.specs.ProcessTrees.{plain_process, processes_of}
use Rattle.sort_table.specs.BareProcesses.{bare_processes}
use Rattle.sort_checker.specs.ReadyTrees.{leaves_in_all, leaves_along}
use Rattle.sort_checker.specs.Stops.{stops_in_all}
use Rattle.sort_checker.specs.StopTrees.{stops_of}
use Rattle.sort_checker.proofs.stops.+stops.Given as goal

abbrev pub invariant-add_processes-loop-process : goal.invariant-add_processes-loop-process
invariant-add_processes-loop-process l = record {
  stops : stops_of l.list.items ≡ stops_of l.fn.list.items ++ stops_in_all (bare_processes (processes_of (map plain_process (take l.process-index l.processes))));
  leaves : leaves_along l.list.items ≡ leaves_along l.fn.list.items ++ leaves_in_all (processes_of (map plain_process (take l.process-index l.processes)));
}
