use Rattle.sort_table.specs.LentTrees.{expressions_of}
use Rattle.sort_table.proofs.PushedLists.{pushed_more}
use Rattle.sort_table.proofs.SortTreeSteps.{sorts_of_processes, sorts_of_process, sums_listed}
use Rattle.sort_table.proofs.sort_trees.+sums.Goals as goal

pub add_processes-loop-process-preserved : goal.add_processes-loop-process-preserved
add_processes-loop-process-preserved t c =
    pushed_more sorts_of_processes sorts_of_process sums_listed c.args.processes.now c.loop-process.process-index c.process-item.result (expressions_of c.args.list.now.items) (expressions_of c.loop-process.list.items) (expressions_of c.add_process.new.list.items) c.loop-process-test.true c.process-item.is c.loop-process.invariant c.in_ok-add_process.ensures
