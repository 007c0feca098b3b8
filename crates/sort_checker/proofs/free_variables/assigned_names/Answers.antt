use Rattle.sort_checker.proofs.FreeParts.{assigned_more}
use Rattle.sort_checker.proofs.free_variables.assigned_names.Goals as goal

pub loop-assignment-preserved : goal.loop-assignment-preserved
loop-assignment-preserved c =
    assigned_more c.args.assignments.now c.loop-assignment.assignment-index c.assignment-item.result c.loop-assignment.names c.put.new.self 0 c.as_slice.result.now c.loop-assignment-test.true c.assignment-item.is c.as_slice.ensures.value c.loop-assignment.invariant c.in_ok-put.ensures.put
