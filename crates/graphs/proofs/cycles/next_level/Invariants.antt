use Rattle.std.proofs.Common.{take}
use Rattle.graphs.specs.Distances.{ReachesLevel}
use Rattle.graphs.proofs.cycles.next_level.Given as goal

abbrev pub invariant-loop-node : goal.invariant-loop-node
invariant-loop-node l = ReachesLevel l.back (take l.node-index l.level) l.distance l.fn.distances.items l.distances.items l.next.items
