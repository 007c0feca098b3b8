use Rattle.std.proofs.Common.{rules, arith, ◌+◌}
use Rattle.lin_driver.specs.BufferLines as lines
use Rattle.lin_driver.proofs.WrittenPieces.{one_more}
use Rattle.lin_driver.proofs.buffers.add_buffers.Goals as goal

pub loop-k-preserved : goal.loop-k-preserved
loop-k-preserved c = one_more lines.beside c.loop-k.k-counter (c.args.n + 1) _ _ _ (omega (arith, c.loop-k-test.true)) (search rules) c.loop-k.invariant
