use Rattle.std.proofs.Common.{◌≡◌, List, ℕ, sym, ◌∙◌, subst, arith}
use Rattle.std.specs.List.{Contains}
use Rattle.graphs.specs.Graphs.{successors}
use Rattle.graphs.specs.Marking.{TurnsEdges}
use Rattle.graphs.proofs.Marks.{successors_at}
use Rattle.graphs.proofs.Kept.{reversed_none, reversed_more, turned_all}
use Rattle.graphs.proofs.edges.reversed.Goals as goal

pub loop-node-init : goal.loop-node-init
loop-node-init c = reversed_none _ _ c.in_ok-back.ensures.size c.in_ok-back.ensures.none

pub turn_edges-requires : goal.turn_edges-requires
turn_edges-requires c = λ a follows.
    let at : successors c.args.edges.now c.loop-node.node ≡ c.as_slice.result.now = successors_at c.args.edges.now c.loop-node.node c.index-edges-node.result c.loop-node-test.true c.index-edges-node.is ∙ sym c.as_slice.ensures.value in
    omega (arith, c.loop-node.invariant.size, c.requires c.loop-node.node a (subst (λ (l : List ℕ). Contains l a) (sym at) follows))

pub loop-node-preserved : goal.loop-node-preserved
loop-node-preserved c =
    let at : successors c.args.edges.now c.loop-node.node ≡ c.as_slice.result.now = successors_at c.args.edges.now c.loop-node.node c.index-edges-node.result c.loop-node-test.true c.index-edges-node.is ∙ sym c.as_slice.ensures.value in
    reversed_more _ _ _ _ c.loop-node.invariant (subst (λ (l : List ℕ). TurnsEdges c.loop-node.back.items c.loop-node.node l c.turn_edges.new.back.items) (sym at) c.in_ok-turn_edges.ensures)

pub returns : goal.returns
returns c = turned_all _ c.loop-node.node _ (omega arith) c.loop-node.invariant
