use Rattle.std.proofs.Common.{◌∙◌, List, map, refl, sym}
use Rattle.mcrl2_syntax.specs.declared.process_tree.ProcTree.{ProcTree}
use Rattle.mcrl2_syntax.specs.ProcessTrees.{plain_process, processes_of}
use Rattle.sort_table.specs.BareProcesses.{Variables, bare_process, bare_processes, sums_in, sums_in_all}
use Rattle.sort_table.proofs.Searches.{IsListed}
use Rattle.sort_table.proofs.TwiceLemmas.{none_more, some_there}
use Rattle.sort_table.proofs.repeated_variables.+sums.Goals as goal

abbrev sums_of_all : List ProcTree → List Variables
sums_of_all ps = sums_in_all (bare_processes (processes_of (map plain_process ps)))

abbrev sums_of_one : ProcTree → List Variables
sums_of_one p = sums_in (bare_process (plain_process p))

listed : IsListed sums_of_all sums_of_one
listed = record { of_none = refl; of_more = λ p ps. refl }

pub repeats_in_processes-returns-then-branch : goal.repeats_in_processes-returns-then-branch
repeats_in_processes-returns-then-branch t c =
    sym (some_there sums_of_all sums_of_one listed c.args.processes.now c.loop-process.process-index c.process-item.result c.loop-process-test.true c.process-item.is (sym c.in_ok-repeats_in_process.ensures ∙ c.if-branch.true))

pub repeats_in_processes-loop-process-preserved : goal.repeats_in_processes-loop-process-preserved
repeats_in_processes-loop-process-preserved t c =
    none_more sums_of_all sums_of_one listed c.args.processes.now c.loop-process.process-index c.process-item.result c.loop-process-test.true c.process-item.is c.loop-process.invariant (sym c.in_ok-repeats_in_process.ensures ∙ c.if-branch.false)
