use Rattle.std.proofs.Common.{sym, subst}
use Rattle.graphs.specs.Graphs.{IsGraph}
use Rattle.eqn_check.proofs.RecursionLemmas.{edges_are_graph}
use Rattle.eqn_check.proofs.recursion.find_calls.Goals as goal

pub is_cyclic-requires : goal.is_cyclic-requires
is_cyclic-requires c = subst IsGraph (sym c.as_slice-2.ensures.value) (edges_are_graph c.args.sig.now c.args.pool.now.trees c.args.theory.now.equations.items c.requires c.in_ok-edges.edges.items c.in_ok-edges.ensures)
