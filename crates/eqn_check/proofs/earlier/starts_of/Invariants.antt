use Rattle.std.proofs.Common.{take}
use Rattle.eqn_check.specs.Earlier.{AreStarts}
use Rattle.eqn_check.proofs.earlier.starts_of.Given as goal

abbrev pub invariant-loop-number : goal.invariant-loop-number
invariant-loop-number l = AreStarts l.pool.trees l.count (take l.number l.theory.equations.items) l.keys.items
