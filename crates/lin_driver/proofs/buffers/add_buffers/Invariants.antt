use Rattle.std.proofs.Common.{◌≡◌, ◌-◌, ◌++◌, ◌+◌}
use Rattle.std.specs.List.{flat_map, range_with_len}
use Rattle.std.specs.String.{string_bytes}
use Rattle.lin_driver.specs.BufferLines as lines
use Rattle.lin_driver.proofs.buffers.add_buffers.Given as goal

abbrev pub invariant-loop-k : goal.invariant-loop-k
invariant-loop-k l =
    string_bytes l.text ++ flat_map lines.beside (range_with_len l.k-counter ((l.n + 1) - l.k-counter))
    ≡ string_bytes l.initial.text ++ flat_map lines.beside (range_with_len 2 (l.n - 1))
