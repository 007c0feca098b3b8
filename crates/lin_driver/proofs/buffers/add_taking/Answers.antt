use Rattle.std.proofs.Common.{append_assoc}
use Rattle.lin_driver.proofs.buffers.add_taking.Goals as goal

pub returns : goal.returns
returns c = simp append_assoc c.write.ensures.bytes
