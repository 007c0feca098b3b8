use Rattle.std.proofs.Common.{◌-◌, codes}
use Rattle.std.specs.List.{flat_map, range_with_len}
use Rattle.lin_driver.specs.BufferLines as lines
use Rattle.lin_driver.proofs.WrittenPieces.{five_behind}
use Rattle.lin_driver.proofs.buffers.add_start.Goals as goal

pub returns : goal.returns
returns c =
    five_behind _ (codes "init allow({inp, outp") (flat_map lines.allowed (range_with_len 1 (c.args.n - 1))) (codes "}, ") (lines.communicating c.args.n) (codes ");\n")
    c.in_ok-push_str.ensures.bytes c.in_ok-add_allowed.ensures c.in_ok-push_str-2.ensures.bytes c.in_ok-add_communicating.ensures c.in_ok-push_str-3.ensures.bytes
