use Rattle.std.proofs.Common.{◌+◌, length}
use Rattle.std.specs.Prelude.{sum_by}
use Rattle.graphs.specs.Distances.{lacks}
use Rattle.graphs.proofs.Distances.{IsLevel}
use Rattle.graphs.proofs.cycles.distances_to.Given as goal

abbrev pub invariant-levels : goal.invariant-levels
invariant-levels l = IsLevel l.back l.node l.distances.items l.level.items l.distance

abbrev pub decreases-levels : goal.decreases-levels
decreases-levels l = sum_by lacks l.distances.items + length l.level.items
