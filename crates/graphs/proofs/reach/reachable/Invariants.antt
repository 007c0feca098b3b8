use Rattle.std.proofs.Common.{◌+◌, length}
use Rattle.graphs.specs.Marking.{unmarked_count}
use Rattle.graphs.proofs.Searches.{IsSearch}
use Rattle.graphs.proofs.reach.reachable.Given as goal

abbrev pub invariant-loop-node : goal.invariant-loop-node
invariant-loop-node l = IsSearch l.edges l.start l.reached.items l.waiting.items

abbrev pub decreases-loop-node : goal.decreases-loop-node
decreases-loop-node l = unmarked_count l.reached.items + length l.waiting.items
