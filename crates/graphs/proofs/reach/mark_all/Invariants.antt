use Rattle.std.proofs.Common.{take}
use Rattle.graphs.specs.Marking.{MarksAll}
use Rattle.graphs.proofs.reach.mark_all.Given as goal

abbrev pub invariant-loop-node : goal.invariant-loop-node
invariant-loop-node l = MarksAll (take l.node-index l.nodes) l.fn.reached.items l.fn.waiting.items l.reached.items l.waiting.items
