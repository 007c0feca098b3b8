use Rattle.std.proofs.Common.{List, ℕ, subst, arith, get_or}
use Rattle.std.proofs.lemmas.List.Elements.{Contains-get_or}
use Rattle.graphs.specs.Distances.{IsAt}
use Rattle.graphs.proofs.Paths.{nearest_skip, nearest_keep, nearest_take, NearestSoFar}
use Rattle.std.proofs.lemmas.List.{take_all}
use Rattle.graphs.proofs.Ranking.{on_true, on_false}
use Rattle.graphs.proofs.cycles.nearest.Goals as goal
use Rattle.graphs.proofs.cycles.nearest.Goals.{then-is_nearer, else-is_nearer}

pub bounds : goal.bounds
bounds c =
    c.requires _ (Contains-get_or c.args.nodes.now c.loop-node.node-index 0 c.loop-node-test.true)

pub offset_bounds-distances-node : goal.offset_bounds-distances-node
offset_bounds-distances-node c =
    let within = c.requires _ (Contains-get_or c.args.nodes.now c.loop-node.node-index 0 c.loop-node-test.true) in
    omega (arith, within)

pub loop-node-preserved-in_default : goal.loop-node-preserved-in_default
loop-node-preserved-in_default c =
    nearest_skip c.args.nodes.now c.loop-node.node-index c.args.distances.now c.loop-node.found c.loop-node.invariant c.loop-node-test.true c.in_default.is

pub loop-node-preserved : goal.loop-node-preserved
loop-node-preserved c =
    let within = c.requires _ (Contains-get_or c.args.nodes.now c.loop-node.node-index 0 c.loop-node-test.true) in
    let at : IsAt c.args.distances.now (get_or c.args.nodes.now c.loop-node.node-index 0) c.in-Some.distance = c.in-Some.is in
    elim c.if-is_nearer.branch [
      | then-is_nearer w ↦ nearest_take c.args.nodes.now c.loop-node.node-index c.args.distances.now c.loop-node.found c.if-is_nearer.found c.in-Some.distance c.loop-node.invariant c.loop-node-test.true at (on_true _ _ _ w.if-is_nearer.true c.is_nearer.ensures) w.found-is
      | else-is_nearer w ↦ nearest_keep c.args.nodes.now c.loop-node.node-index c.args.distances.now c.loop-node.found c.if-is_nearer.found c.in-Some.distance c.loop-node.invariant c.loop-node-test.true at (on_false _ _ _ w.if-is_nearer.false c.is_nearer.ensures) w.found-is
    ]

pub returns : goal.returns
returns c =
    subst (λ (l : List ℕ). NearestSoFar l c.args.distances.now c.loop-node.found) (take_all c.loop-node.node-index c.args.nodes.now c.loop-node-test.false) c.loop-node.invariant
