use Rattle.std.proofs.Common.{take}
use Rattle.eqn_check.specs.CallTables.{AllBelow}
use Rattle.eqn_check.proofs.falling.all_variables_below.Given as goal

abbrev pub invariant-loop-term : goal.invariant-loop-term
invariant-loop-term l = AllBelow l.sig l.pool.trees (take l.term-index l.terms) l.sets.items
