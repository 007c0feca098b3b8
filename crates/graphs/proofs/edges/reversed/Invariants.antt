use Rattle.graphs.specs.Marking.{AreTurned}
use Rattle.graphs.proofs.edges.reversed.Given as goal

abbrev pub invariant-loop-node : goal.invariant-loop-node
invariant-loop-node l = AreTurned l.edges l.node l.back.items
