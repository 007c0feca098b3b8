use Rattle.eqn_check.specs.CallTables.{AreFallingUpTo}
use Rattle.eqn_check.proofs.falling.falling_places.Given as goal

abbrev pub invariant-loop-number : goal.invariant-loop-number
invariant-loop-number l = AreFallingUpTo l.sig l.pool.trees l.theory.equations.items l.number l.places.items
