use Rattle.sort_table.specs.LentTexts.{texts_of}
use Rattle.sort_table.proofs.PushedLists.{pushed_more}
use Rattle.sort_table.proofs.IdentifierSteps.{names_of_processes, names_of_process, processes_listed}
use Rattle.sort_table.proofs.identifiers.+processes.Goals as goal

pub add_processes-loop-process-preserved : goal.add_processes-loop-process-preserved
add_processes-loop-process-preserved t c =
    pushed_more names_of_processes names_of_process processes_listed c.args.processes.now c.loop-process.process-index c.process-item.result (texts_of c.args.list.now.items) (texts_of c.loop-process.list.items) (texts_of c.add_process.new.list.items) c.loop-process-test.true c.process-item.is c.loop-process.invariant c.in_ok-add_process.ensures
