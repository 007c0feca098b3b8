use Rattle.std.proofs.Common.{◌-◌}
use Rattle.lin_driver.specs.BufferLines as lines
use Rattle.lin_driver.proofs.WrittenPieces.{behind, one_more}
use Rattle.lin_driver.proofs.buffers.add_middle_buffers.Goals as goal

pub loop-k-preserved : goal.loop-k-preserved
loop-k-preserved c = one_more lines.middle_buffer c.loop-k.k c.args.n _ _ _ c.loop-k-test.true (behind _ (lines.taking (c.loop-k.k - 1) c.loop-k.k) (lines.giving c.loop-k.k) c.in_ok-add_taking.ensures c.in_ok-add_giving.ensures) c.loop-k.invariant
