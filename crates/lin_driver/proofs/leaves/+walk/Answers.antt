use Rattle.lin_driver.proofs.NetworkLeaves.{leaves_more}
use Rattle.lin_driver.proofs.leaves.+walk.Goals as goal

pub add_leaves_beside-loop-part-preserved : goal.add_leaves_beside-loop-part-preserved
add_leaves_beside-loop-part-preserved t c = leaves_more _ _ _ _ _ _ c.loop-part-test.true c.part-item.is c.loop-part.invariant c.in_ok-add_leaves.ensures
