use Rattle.std.proofs.Common.{◌-◌, codes}
use Rattle.std.specs.List.{flat_map, range_with_len}
use Rattle.lin_driver.specs.BufferLines as lines
use Rattle.lin_driver.proofs.WrittenPieces.{five_behind}
use Rattle.lin_driver.proofs.buffers.add_communicating.Goals as goal

pub returns : goal.returns
returns c =
    five_behind _ (codes "comm({s_1|r_1 -> c_1") (flat_map lines.further_rule (range_with_len 2 (c.args.n - 2))) (codes "}, B_1") (flat_map lines.beside (range_with_len 2 (c.args.n - 1))) (codes ")")
    c.in_ok-push_str.ensures.bytes c.in_ok-add_rules.ensures c.in_ok-push_str-2.ensures.bytes c.in_ok-add_buffers.ensures c.in_ok-push_str-3.ensures.bytes
