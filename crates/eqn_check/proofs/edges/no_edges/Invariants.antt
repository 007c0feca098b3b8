use Rattle.std.proofs.Common.{◌≡◌, ℕ, length}
use Rattle.graphs.specs.Graphs.{HasEdge}
use Rattle.eqn_check.proofs.edges.no_edges.Given as goal

abbrev pub invariant-loop : goal.invariant-loop
invariant-loop l = (length l.edges.items ≡ l.counter) × ((a b : ℕ) → HasEdge l.edges.items a b → ⊥)
