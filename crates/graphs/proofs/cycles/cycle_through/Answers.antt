use Rattle.std.proofs.Common.{◌≡◌, ◌++◌, ◌∷◌, [], List, ℕ, ap, sym, ◌∙◌, subst, arith}
use Rattle.std.specs.List.{Contains}
use Rattle.graphs.specs.Graphs.{successors}
use Rattle.graphs.specs.Distances.{IsNearest}
use Rattle.graphs.proofs.Marks.{successors_at}
use Rattle.graphs.proofs.Paths.{trace_begun, trace_more, trace_less, trace_ended, nearer_on, no_way_back}
use Rattle.graphs.proofs.cycles.cycle_through.Goals as goal

pub nearest-requires : goal.nearest-requires
nearest-requires c =
    let at : successors c.args.edges.now c.args.node ≡ c.as_slice.result.now = successors_at c.args.edges.now c.args.node c.index-edges-node.result c.requires.node c.index-edges-node.is ∙ sym c.as_slice.ensures.value in
    λ a one. omega (arith, c.requires.size, c.requires.graph c.args.node a (subst (λ (l : List ℕ). Contains l a) (sym at) one))

pub returns-in_default : goal.returns-in_default
returns-in_default c =
    let at : successors c.args.edges.now c.args.node ≡ c.as_slice.result.now = successors_at c.args.edges.now c.args.node c.index-edges-node.result c.requires.node c.index-edges-node.is ∙ sym c.as_slice.ensures.value in
    no_way_back c.args.edges.now c.args.distances.now c.args.node c.requires.distances (λ a d edge. c.in_default.ensures a d (subst (λ (l : List ℕ). Contains l a) at edge))

pub loop-current-init : goal.loop-current-init
loop-current-init c =
    let at : successors c.args.edges.now c.args.node ≡ c.as_slice.result.now = successors_at c.args.edges.now c.args.node c.index-edges-node.result c.requires.node c.index-edges-node.is ∙ sym c.as_slice.ensures.value in
    trace_begun _ _ _ _ _ _ c.requires.graph c.requires.distances (subst (λ (l : List ℕ). IsNearest l c.args.distances.now c.in-Some.current c.in-Some.left) (sym at) c.in-Some.ensures) (c.in_ok-push.ensures.items ∙ ap (λ (l : List ℕ). l ++ c.args.node ∷ []) c.new-cycle.ensures.items)

pub nearest-requires-in-loop-current : goal.nearest-requires-in-loop-current
nearest-requires-in-loop-current c =
    let at : successors c.args.edges.now c.loop-current.current ≡ c.as_slice-in-loop-current.result.now = successors_at c.args.edges.now c.loop-current.current c.index-edges-current.result c.loop-current.invariant.within c.index-edges-current.is ∙ sym c.as_slice-in-loop-current.ensures.value in
    λ a one. omega (arith, c.requires.size, c.requires.graph c.loop-current.current a (subst (λ (l : List ℕ). Contains l a) (sym at) one))

pub unreachable-requires : goal.unreachable-requires
unreachable-requires c =
    let at : successors c.args.edges.now c.loop-current.current ≡ c.as_slice-in-loop-current.result.now = successors_at c.args.edges.now c.loop-current.current c.index-edges-current.result c.loop-current.invariant.within c.index-edges-current.is ∙ sym c.as_slice-in-loop-current.ensures.value in
    let on = nearer_on c.args.edges.now c.args.distances.now c.args.node c.loop-current.current c.loop-current.left c.requires.distances c.loop-current.invariant.near c.loop-current-test.true in
    c.in_default-nearest.ensures on.0 on.1 (subst (λ (l : List ℕ). Contains l on.0) at on.2) on.3

pub loop-current-smaller : goal.loop-current-smaller
loop-current-smaller c =
    let at : successors c.args.edges.now c.loop-current.current ≡ c.as_slice-in-loop-current.result.now = successors_at c.args.edges.now c.loop-current.current c.index-edges-current.result c.loop-current.invariant.within c.index-edges-current.is ∙ sym c.as_slice-in-loop-current.ensures.value in
    trace_less c.args.edges.now c.args.distances.now c.args.node c.loop-current.current c.loop-current.left _ _ c.requires.distances c.loop-current.invariant.near c.loop-current-test.true (subst (λ (l : List ℕ). IsNearest l c.args.distances.now c.in-Some-nearest.next c.in-Some-nearest.less) (sym at) c.in-Some-nearest.ensures)

pub loop-current-preserved : goal.loop-current-preserved
loop-current-preserved c =
    let at : successors c.args.edges.now c.loop-current.current ≡ c.as_slice-in-loop-current.result.now = successors_at c.args.edges.now c.loop-current.current c.index-edges-current.result c.loop-current.invariant.within c.index-edges-current.is ∙ sym c.as_slice-in-loop-current.ensures.value in
    trace_more _ _ _ _ _ _ _ _ _ c.requires.graph c.requires.distances c.loop-current.invariant c.loop-current-test.true (subst (λ (l : List ℕ). IsNearest l c.args.distances.now c.in-Some-nearest.next c.in-Some-nearest.less) (sym at) c.in-Some-nearest.ensures) c.in_ok-push-2.ensures.items

pub returns : goal.returns
returns c =
    trace_ended _ _ _ _ _ _ c.loop-current.invariant c.loop-current-test.false
