use Rattle.std.proofs.Common.{take}
use Rattle.eqn_check.specs.Counted.{AreCounted}
use Rattle.eqn_check.proofs.counting.counted_variables.Given as goal

abbrev pub invariant-loop-term : goal.invariant-loop-term
invariant-loop-term l = AreCounted l.sig l.pool.trees l.fn.condition (take l.term-index l.terms) l.counted.items
