use Rattle.std.proofs.Common.{take}
use Rattle.eqn_check.proofs.FallingLemmas.{NoneIs}
use Rattle.eqn_check.proofs.falling.has_call.Given as goal

abbrev pub invariant-loop-call : goal.invariant-loop-call
invariant-loop-call l = NoneIs l.pool.trees l.fun (take l.call-index l.calls)
