use Rattle.std.proofs.Common.{take}
use Rattle.graphs.specs.Distances.{ReachesAll}
use Rattle.graphs.proofs.cycles.reach_all.Given as goal

abbrev pub invariant-loop-node : goal.invariant-loop-node
invariant-loop-node l = ReachesAll (take l.node-index l.nodes) l.distance l.fn.distances.items l.fn.next.items l.distances.items l.next.items
