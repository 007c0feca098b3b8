use Rattle.std.proofs.Common.{◌≡◌, ◌++◌, map, take}
use Rattle.communication.specs.Places.{plain_start, plain_way}
use Rattle.communication.specs.Rounds.{with_start}
use Rattle.communication.proofs.ways.add_with_starts.Given as goal

abbrev pub invariant-loop-start : goal.invariant-loop-start
invariant-loop-start l = map plain_way l.found.items ≡ map plain_way l.fn.found.items ++ map (with_start (plain_way l.way)) (map plain_start (take l.start-index l.starts))
