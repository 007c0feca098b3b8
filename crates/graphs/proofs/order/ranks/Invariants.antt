use Rattle.std.proofs.Common.{ℕ, ◌<◌, []}
use Rattle.graphs.specs.Settling.{IsSettling, IsDone}
use Rattle.graphs.proofs.order.ranks.Given as goal

abbrev pub invariant-loop-node : goal.invariant-loop-node
invariant-loop-node l = record {
  settling : IsSettling l.kept.items l.search.seen.items l.search.states.items [] l.search.count;
  done : (a : ℕ) → a < l.node → IsDone l.search.states.items a;
}
