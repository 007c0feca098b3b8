use Rattle.std.proofs.Common.{append_assoc}
use Rattle.lin_driver.specs.BufferLines as lines
use Rattle.lin_driver.proofs.WrittenPieces.{one_more}
use Rattle.lin_driver.proofs.buffers.add_rules.Goals as goal

pub loop-k-preserved : goal.loop-k-preserved
loop-k-preserved c = one_more lines.further_rule c.loop-k.k-counter c.args.n _ _ _ c.loop-k-test.true (simp append_assoc c.in_ok-write.ensures.bytes) c.loop-k.invariant
