use Rattle.std.proofs.Common.{rules}
use Rattle.lin_driver.specs.BufferLines as lines
use Rattle.lin_driver.proofs.WrittenPieces.{one_more}
use Rattle.lin_driver.proofs.buffers.add_allowed.Goals as goal

pub loop-k-preserved : goal.loop-k-preserved
loop-k-preserved c = one_more lines.allowed c.loop-k.k-counter c.args.n _ _ _ c.loop-k-test.true (search rules) c.loop-k.invariant
