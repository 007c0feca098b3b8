use Rattle.eqn_check.specs.CallTables.{AreEdgesUpTo}
use Rattle.eqn_check.proofs.edges.call_edges.Given as goal

abbrev pub invariant-loop-number : goal.invariant-loop-number
invariant-loop-number l = AreEdgesUpTo l.sig l.pool.trees l.theory.equations.items l.number l.edges.items
