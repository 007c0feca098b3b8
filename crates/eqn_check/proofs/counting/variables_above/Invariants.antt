use Rattle.eqn_check.specs.Counted.{WalksKept}
use Rattle.eqn_check.proofs.counting.variables_above.Given as goal

abbrev pub invariant-loop-one : goal.invariant-loop-one
invariant-loop-one l = WalksKept l.sig l.pool.trees l.fn.condition l.rest l.found

abbrev pub decreases-loop-one : goal.decreases-loop-one
decreases-loop-one l = l.rest.0
