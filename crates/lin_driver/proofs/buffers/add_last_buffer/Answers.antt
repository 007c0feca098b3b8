use Rattle.std.proofs.Common.{append_assoc, ◌-◌}
use Rattle.lin_driver.proofs.WrittenPieces.{behind}
use Rattle.lin_driver.specs.BufferLines as lines
use Rattle.lin_driver.proofs.buffers.add_last_buffer.Goals as goal

pub returns : goal.returns
returns c = behind _ (lines.taking (c.args.n - 1) c.args.n) (lines.giving_out c.args.n) c.in_ok-add_taking.ensures (simp append_assoc c.in_ok-writeln.ensures.bytes)
