use Rattle.std.proofs.Common.{List, map, refl}
use Rattle.mcrl2_syntax.specs.declared.process_tree.ProcTree.{ProcTree}
use Rattle.mcrl2_syntax.specs.ProcessTrees.{plain_process, processes_of}
use Rattle.sort_table.specs.BareProcesses.{bare_process, bare_processes}
use Rattle.sort_table.proofs.Searches.{IsListed}
use Rattle.sort_checker.specs.ReadyTrees.{Leaf, leaves_in, leaves_in_all, leaves_along}
use Rattle.sort_checker.specs.Stops.{Stop, stops_in, stops_in_all}
use Rattle.sort_checker.specs.StopTrees.{stops_of}
use Rattle.sort_checker.proofs.NameLists.{appended_more}
use Rattle.sort_checker.proofs.stops.+stops.Goals as goal

abbrev of_all : List ProcTree → List Stop
of_all ps = stops_in_all (bare_processes (processes_of (map plain_process ps)))

abbrev of_one : ProcTree → List Stop
of_one p = stops_in (bare_process (plain_process p))

listed : IsListed of_all of_one
listed = record { of_none = refl; of_more = λ p ps. refl }

abbrev all_leaves : List ProcTree → List Leaf
all_leaves ps = leaves_in_all (processes_of (map plain_process ps))

abbrev leaves_of_one : ProcTree → List Leaf
leaves_of_one p = leaves_in (plain_process p)

leaves_listed : IsListed all_leaves leaves_of_one
leaves_listed = record { of_none = refl; of_more = λ p ps. refl }

pub add_processes-loop-process-preserved : goal.add_processes-loop-process-preserved
add_processes-loop-process-preserved t c = record {
  stops = appended_more of_all of_one listed (stops_of c.args.list.now.items) (stops_of c.loop-process.list.items) (stops_of c.add_process.new.list.items) c.args.processes.now c.loop-process.process-index c.process-item.result c.loop-process-test.true c.process-item.is
      c.loop-process.invariant.stops c.in_ok-add_process.ensures.stops;
  leaves = appended_more all_leaves leaves_of_one leaves_listed (leaves_along c.args.list.now.items) (leaves_along c.loop-process.list.items) (leaves_along c.add_process.new.list.items) c.args.processes.now c.loop-process.process-index c.process-item.result c.loop-process-test.true c.process-item.is
      c.loop-process.invariant.leaves c.in_ok-add_process.ensures.leaves;
}
