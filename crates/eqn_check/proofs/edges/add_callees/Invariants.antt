use Rattle.std.proofs.Common.{take}
use Rattle.eqn_check.proofs.EdgeLemmas.{AddsOthers}
use Rattle.eqn_check.proofs.edges.add_callees.Given as goal

abbrev pub invariant-loop-call : goal.invariant-loop-call
invariant-loop-call l = AddsOthers l.pool.trees l.fun (take l.call-index l.calls) l.fn.found.items l.found.items
