use Rattle.std.proofs.Common.{◌∙◌, ◌<◌, List, ap, arith, get_or, length, refl, subst, sym}
use Rattle.std.proofs.lemmas.List.{length-map}
use Rattle.lps_core.specs.PlainLinears.{plain_next}
use Rattle.aut_check.specs.declared.systems.Edge.{Edge as CodeEdge}
use Rattle.aut_check.specs.PlainSystems.{plain_edge, plain_system}
use Rattle.aut_check.proofs.SortedEdges.{edge_read, sorted_all, sorted_first, sorted_more, source_inside}
use Rattle.aut_check.proofs.edges.edges_by_source.Goals as goal

pub loop-number-init : goal.loop-number-init
loop-number-init c = sorted_first (plain_system c.args.lts.now) c.in_ok-found.found.items (c.in_ok-found.ensures.size ∙ c.len.ensures ∙ c.args.lts.now.states.ok.0 ∙ sym (length-map c.args.lts.now.states.items plain_next)) c.in_ok-found.ensures.none

pub index_mut-requires : goal.index_mut-requires
index_mut-requires c =
    let inside : c.loop-number.number < length c.args.lts.now.edges.items = subst (λ (xs : List CodeEdge). c.loop-number.number < length xs) c.deref-edge-items.ensures.value c.loop-number-test.true in
    let is = c.edge-item.is ∙ ap (λ (xs : List CodeEdge). get_or xs c.loop-number.number c.edge-item.result) c.deref-edge-items.ensures.value in
    let from = source_inside c.args.lts.now c.loop-number.number c.edge-item.result inside is c.requires in
    omega (arith, from, c.loop-number.invariant.size, length-map c.args.lts.now.states.items plain_next, c.loop-number.found.ok.0)

pub loop-number-preserved : goal.loop-number-preserved
loop-number-preserved c =
    let inside : c.loop-number.number < length c.args.lts.now.edges.items = subst (λ (xs : List CodeEdge). c.loop-number.number < length xs) c.deref-edge-items.ensures.value c.loop-number-test.true in
    let is = c.edge-item.is ∙ ap (λ (xs : List CodeEdge). get_or xs c.loop-number.number c.edge-item.result) c.deref-edge-items.ensures.value in
    let from = source_inside c.args.lts.now c.loop-number.number c.edge-item.result inside is c.requires in
    sorted_more (plain_system c.args.lts.now) c.loop-number.number c.loop-number.found.items (plain_edge c.edge-item.result) c.index_mut.result.now c.push.new.self _ c.loop-number.invariant (edge_read c.args.lts.now.edges.items c.loop-number.number c.edge-item.result inside is)
    (omega (arith, from, c.loop-number.invariant.size, length-map c.args.lts.now.states.items plain_next)) c.index_mut.ensures.value c.in_ok-push.ensures.items refl

pub returns-clause-long : goal.returns-clause-long
returns-clause-long c = c.loop-number.invariant.size ∙ length-map c.args.lts.now.states.items plain_next

pub returns-clause-edges : goal.returns-clause-edges
returns-clause-edges c =
    sorted_all (plain_system c.args.lts.now) c.loop-number.number c.loop-number.found.items c.loop-number.invariant (omega (arith, c.loop-number-test.false, ap length c.deref-edge-items.ensures.value, length-map c.args.lts.now.edges.items plain_edge))
