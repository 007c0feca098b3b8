use Rattle.std.proofs.Common.{take}
use Rattle.std.specs.List.{All, Contains}
use Rattle.term_pool.proofs.pool.closed_term.first_outside.Given as goal

abbrev pub invariant-loop-sort : goal.invariant-loop-sort
invariant-loop-sort l = All (Contains l.set.keys) (take l.sort-index l.sorts)
