use Rattle.std.proofs.Common.{◌≡◌, [], List, ℕ, Bool, false, sym, ◌∙◌, subst, arith, length, replicate}
use Rattle.std.specs.List.{Contains}
use Rattle.graphs.specs.Graphs.{successors, IsMarked}
use Rattle.graphs.specs.Marking.{MarksAll}
use Rattle.graphs.proofs.Marks.{successors_at, none_left, unmarked_at_first}
use Rattle.graphs.proofs.Searches.{search_begun, search_on, search_ended, waiting_below}
use Rattle.graphs.proofs.reach.reachable.Goals as goal

pub mark_all-requires : goal.mark_all-requires
mark_all-requires c = λ a begins. omega (arith, c.requires.start a begins, c.in_ok-reached.ensures.len)

pub loop-node-init : goal.loop-node-init
loop-node-init c =
    let none : c.in_ok-reached.reached.items ≡ replicate (length c.args.edges.now) false = c.in_ok-reached.ensures.items_if_clones_equal (λ y e. e) in
    let size : length c.in_ok-reached.reached.items ≡ length c.args.edges.now = omega (arith, c.in_ok-reached.ensures.len, c.in_ok-reached.reached.ok.0) in
    search_begun _ _ _ _ _ size
    (λ b marked. unmarked_at_first (length c.args.edges.now) b (subst (λ (l : List Bool). IsMarked l b) none marked))
    (subst (λ (l : List ℕ). MarksAll c.args.start.now c.in_ok-reached.reached.items l c.mark_all.new.reached.items c.mark_all.new.waiting.items) c.new-waiting.ensures.items c.in_ok-mark_all.ensures)

pub bounds-edges-node : goal.bounds-edges-node
bounds-edges-node c = waiting_below _ _ _ _ _ _ c.in-Some.ensures.items c.loop-node.invariant

pub mark_all-requires-in-Some : goal.mark_all-requires-in-Some
mark_all-requires-in-Some c = λ a follows.
    let below = waiting_below _ _ _ _ _ _ c.in-Some.ensures.items c.loop-node.invariant in
    let at : successors c.args.edges.now c.in-Some.node ≡ c.as_slice.result.now = successors_at c.args.edges.now c.in-Some.node c.index-edges-node.result below c.index-edges-node.is ∙ sym c.as_slice.ensures.value in
    let within = c.requires.graph c.in-Some.node a (subst (λ (l : List ℕ). Contains l a) (sym at) follows) in
    omega (arith, within, c.loop-node.invariant.size, c.loop-node.reached.ok.0)

pub loop-node-preserved : goal.loop-node-preserved
loop-node-preserved c =
    let below = waiting_below _ _ _ _ _ _ c.in-Some.ensures.items c.loop-node.invariant in
    let at : successors c.args.edges.now c.in-Some.node ≡ c.as_slice.result.now = successors_at c.args.edges.now c.in-Some.node c.index-edges-node.result below c.index-edges-node.is ∙ sym c.as_slice.ensures.value in
    search_on _ _ _ _ _ c.in-Some.node _ _ c.in-Some.ensures.items c.loop-node.invariant
    (subst (λ (l : List ℕ). MarksAll l c.loop-node.reached.items c.pop.new.self.items c.mark_all-in-Some.new.reached.items c.mark_all-in-Some.new.waiting.items) (sym at) c.in_ok-mark_all-2.ensures)

pub returns : goal.returns
returns c =
    let none : c.loop-node.waiting.items ≡ [] = none_left c.loop-node.waiting.items (λ some. let wrong = c.in_default.ensures.variant.1 (omega (arith, some, c.loop-node.waiting.ok.0)) in cc) in
    search_ended _ _ _ _ none c.loop-node.invariant

pub offset_bounds-edges-node : goal.offset_bounds-edges-node
offset_bounds-edges-node c = let below = waiting_below _ _ _ _ _ _ c.in-Some.ensures.items c.loop-node.invariant in omega (arith, below)
