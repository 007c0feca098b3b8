use Rattle.std.proofs.Common.{take}
use Rattle.graphs.specs.Marking.{TurnsEdges}
use Rattle.graphs.proofs.edges.turn_edges.Given as goal

abbrev pub invariant-loop-successor : goal.invariant-loop-successor
invariant-loop-successor l = TurnsEdges l.fn.back.items l.node (take l.successor-index l.from) l.back.items
