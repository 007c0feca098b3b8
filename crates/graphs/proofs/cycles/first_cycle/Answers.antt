use Rattle.std.proofs.Common.{List, ℕ, sym, subst, arith}
use Rattle.std.specs.Global.{Vec}
use Rattle.graphs.specs.Graphs.{HasEdge, IsGraph, IsReversed}
use Rattle.graphs.specs.Cycles.{IsFirstPath}
use Rattle.graphs.specs.Distances.{AreDistances, EdgeTurned}
use Rattle.graphs.proofs.Ranking.{kept_graph}
use Rattle.graphs.proofs.Paths.{turned_graph, distances_turned, cycle_found, no_cycle_left}
use Rattle.graphs.proofs.cycles.first_cycle.Goals as goal

pub reversed-requires : goal.reversed-requires
reversed-requires c =
    subst IsGraph (sym c.as_slice.ensures.value) (kept_graph _ _ _ c.requires.graph c.in_ok-kept.ensures)

pub distances_to-requires-clause-graph : goal.distances_to-requires-clause-graph
distances_to-requires-clause-graph c =
    let turned : IsReversed c.in_ok-kept.kept.items c.in_ok-back.back.items = subst (λ (g : List (Vec ℕ)). IsReversed g c.in_ok-back.back.items) c.as_slice.ensures.value c.in_ok-back.ensures in
    subst IsGraph (sym c.as_slice-in-loop-node.ensures.value) (turned_graph _ _ turned)

pub cycle_through-requires-clause-graph : goal.cycle_through-requires-clause-graph
cycle_through-requires-clause-graph c =
    subst IsGraph (sym c.as_slice-in-loop-node-2.ensures.value) (kept_graph _ _ _ c.requires.graph c.in_ok-kept.ensures)

pub cycle_through-requires-clause-distances : goal.cycle_through-requires-clause-distances
cycle_through-requires-clause-distances c =
    let turned : IsReversed c.in_ok-kept.kept.items c.in_ok-back.back.items = subst (λ (g : List (Vec ℕ)). IsReversed g c.in_ok-back.back.items) c.as_slice.ensures.value c.in_ok-back.ensures in
    let are = subst (λ (g : List (Vec ℕ)). AreDistances (EdgeTurned g) c.loop-node.node c.in_ok-distances.distances.items) c.as_slice-in-loop-node.ensures.value c.in_ok-distances.ensures.distances in
    let of_kept = distances_turned _ _ c.loop-node.node c.in_ok-distances.distances.items turned are in
    subst (λ (g : List (Vec ℕ)). AreDistances (HasEdge g) c.loop-node.node c.as_slice-in-loop-node-3.result.now) (sym c.as_slice-in-loop-node-2.ensures.value) (subst (AreDistances (HasEdge c.in_ok-kept.kept.items) c.loop-node.node) (sym c.as_slice-in-loop-node-3.ensures.value) of_kept)

pub returns : goal.returns
returns c =
    no_cycle_left _ _ _ c.in_ok-kept.ensures (λ y below. c.loop-node.invariant y (omega (arith, below, c.loop-node-test.false, c.len-node-end.ensures, c.in_ok-kept.kept.ok.0)))

pub returns-in-Some : goal.returns-in-Some
returns-in-Some c =
    let found = rw c.in-Some.is at c.in_ok-found.ensures in
    cycle_found c.args.edges.now c.args.among.now c.in_ok-kept.kept.items c.loop-node.node c.in-Some.cycle.items c.in_ok-kept.ensures c.loop-node.invariant (found.0, found.1, subst (λ (g : List (Vec ℕ)). IsFirstPath (HasEdge g) c.loop-node.node found.0 c.loop-node.node) c.as_slice-in-loop-node-2.ensures.value found.2)
