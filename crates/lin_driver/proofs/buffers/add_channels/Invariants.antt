use Rattle.std.proofs.Common.{◌≡◌, ◌-◌, ◌++◌}
use Rattle.std.specs.List.{flat_map, range_with_len}
use Rattle.std.specs.String.{string_bytes}
use Rattle.lin_driver.specs.BufferLines as lines
use Rattle.lin_driver.proofs.buffers.add_channels.Given as goal

abbrev pub invariant-loop-k : goal.invariant-loop-k
invariant-loop-k l =
    string_bytes l.text ++ flat_map lines.channel (range_with_len l.k (l.n - l.k))
    ≡ string_bytes l.initial.text ++ flat_map lines.channel (range_with_len 1 (l.n - 1))
