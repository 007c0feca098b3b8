use Rattle.std.proofs.Common.{take}
use Rattle.eqn_check.specs.CallTables.{FallsInCalls, KeepsMarks}
use Rattle.eqn_check.proofs.falling.keep_in_calls.Given as goal

abbrev pub invariant-loop-call : goal.invariant-loop-call
invariant-loop-call l = KeepsMarks l.fn.places.items l.places.items (FallsInCalls l.sig l.pool.trees l.below l.counted l.fun (take l.call-index l.calls))
