use Rattle.lin_driver.specs.BufferLines as lines
use Rattle.lin_driver.proofs.WrittenPieces.{one_more}
use Rattle.lin_driver.proofs.buffers.add_channels.Goals as goal

pub loop-k-preserved : goal.loop-k-preserved
loop-k-preserved c = one_more lines.channel c.loop-k.k c.args.n _ _ _ c.loop-k-test.true c.in_ok-add_channel.ensures c.loop-k.invariant
