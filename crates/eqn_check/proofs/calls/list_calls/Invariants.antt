use Rattle.std.proofs.Common.{take}
use Rattle.eqn_check.specs.CallTables.{ListAllCalls}
use Rattle.eqn_check.proofs.calls.list_calls.Given as goal

abbrev pub invariant-loop-number : goal.invariant-loop-number
invariant-loop-number l = ListAllCalls l.sig l.pool.trees (take l.number l.theory.equations.items) l.lists.items
