use Rattle.std.proofs.Common.{take}
use Rattle.graphs.specs.Marking.{KeepsMarked}
use Rattle.graphs.proofs.edges.marked_nodes.Given as goal

abbrev pub invariant-loop-node : goal.invariant-loop-node
invariant-loop-node l = KeepsMarked (take l.node-index l.nodes) l.marks l.marked.items
