use Rattle.std.proofs.Common.{length}
use Rattle.aut_check.specs.Matchings.{rows, IsMarkedBelow, IsOrder}
use Rattle.aut_check.proofs.matchings.has_matching.Given as goal

abbrev pub invariant-loop-row : goal.invariant-loop-row
invariant-loop-row l = record {
  order : IsOrder (length l.marks) l.order.items;
  marked : IsMarkedBelow (rows l.marks) l.row l.order.items;
}
