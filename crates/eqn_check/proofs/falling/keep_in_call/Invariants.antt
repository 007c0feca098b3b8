use Rattle.eqn_check.specs.CallTables.{FallsInCall, KeepsMarks}
use Rattle.eqn_check.proofs.FallingLemmas.{IsKept}
use Rattle.eqn_check.proofs.falling.keep_in_call.Given as goal

abbrev pub invariant-loop-place : goal.invariant-loop-place
invariant-loop-place l = KeepsMarks l.fn.places.items l.places.items (IsKept (FallsInCall l.sig l.pool.trees l.below l.counted l.call) l.place)
