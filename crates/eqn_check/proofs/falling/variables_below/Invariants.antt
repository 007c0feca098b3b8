use Rattle.eqn_check.specs.CallTables.{WalksBelow}
use Rattle.eqn_check.proofs.falling.variables_below.Given as goal

abbrev pub invariant-loop : goal.invariant-loop
invariant-loop l = WalksBelow l.sig l.pool.trees l.fn.term l.waiting.items l.found
