use Rattle.eqn_check.specs.ExcludedPairs.{PushesParts}
use Rattle.eqn_check.proofs.exclusion.push_parts.Given as goal

abbrev pub invariant-loop-one : goal.invariant-loop-one
invariant-loop-one l = PushesParts l.sig l.pool.trees l.fn.condition l.rest l.by l.fn.found.items l.found.items

abbrev pub decreases-loop-one : goal.decreases-loop-one
decreases-loop-one l = l.rest.0
