use Rattle.eqn_check.specs.Linear.{IsWalked}
use Rattle.eqn_check.proofs.linear.has_distinct_variables.Given as goal

abbrev pub invariant-loop : goal.invariant-loop
invariant-loop l = IsWalked l.pool.trees l.fn.term l.waiting.items l.seen
