use Rattle.std.proofs.Common.{◌≡◌, ◌++◌, map, take}
use Rattle.communication.specs.Places.{plain_group, plain_start}
use Rattle.communication.proofs.ways.add_groups.Given as goal

abbrev pub invariant-loop-start : goal.invariant-loop-start
invariant-loop-start l = map plain_group l.found.items ≡ map plain_group l.fn.found.items ++ map (λ s. s.group) (map plain_start (take l.start-index l.starts))
