use Rattle.std.proofs.Common.{◌≡◌, List, ℕ, sym, ◌∙◌, subst, arith, get_or}
use Rattle.std.specs.List.{Contains}
use Rattle.std.proofs.lemmas.List.Elements.{Contains-get_or}
use Rattle.graphs.specs.Graphs.{successors}
use Rattle.graphs.specs.Distances.{ReachesAll}
use Rattle.graphs.proofs.Marks.{successors_at}
use Rattle.graphs.proofs.Distances.{level_more}
use Rattle.graphs.proofs.cycles.next_level.Goals as goal

pub bounds-back-node : goal.bounds-back-node
bounds-back-node c = c.requires.level _ (Contains-get_or c.args.level.now c.loop-node.node-index 0 c.loop-node-test.true)

pub offset_bounds-back-node : goal.offset_bounds-back-node
offset_bounds-back-node c = let below = c.requires.level _ (Contains-get_or c.args.level.now c.loop-node.node-index 0 c.loop-node-test.true) in omega (arith, below)

pub reach_all-requires : goal.reach_all-requires
reach_all-requires c = λ a follows.
    let below = c.requires.level _ (Contains-get_or c.args.level.now c.loop-node.node-index 0 c.loop-node-test.true) in
    let at : successors c.args.back.now (get_or c.args.level.now c.loop-node.node-index 0) ≡ c.as_slice.result.now = successors_at c.args.back.now _ c.index-back-node.result below c.index-back-node.is ∙ sym c.as_slice.ensures.value in
    omega (arith, c.requires.graph _ a (subst (λ (l : List ℕ). Contains l a) (sym at) follows), c.loop-node.invariant.size, c.requires.size)

pub loop-node-preserved : goal.loop-node-preserved
loop-node-preserved c =
    let below = c.requires.level _ (Contains-get_or c.args.level.now c.loop-node.node-index 0 c.loop-node-test.true) in
    let at : successors c.args.back.now (get_or c.args.level.now c.loop-node.node-index 0) ≡ c.as_slice.result.now = successors_at c.args.back.now _ c.index-back-node.result below c.index-back-node.is ∙ sym c.as_slice.ensures.value in
    level_more _ _ _ _ _ _ _ _ _ c.loop-node.invariant c.loop-node-test.true (subst (λ (l : List ℕ). ReachesAll l c.args.distance c.loop-node.distances.items c.loop-node.next.items c.reach_all.new.distances.items c.reach_all.new.next.items) (sym at) c.in_ok-reach_all.ensures)
