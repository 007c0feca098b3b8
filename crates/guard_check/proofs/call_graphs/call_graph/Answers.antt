use Rattle.std.proofs.Common.{◌<◌, List, ℕ, length, sym, subst}
use Rattle.std.specs.List.{Contains}
use Rattle.graphs.specs.Graphs.{IsGraph, AreReached}
use Rattle.process_terms.specs.PlainProcesses.{plain_model}
use Rattle.guard_check.specs.declared.calls.Extent.TheVariants.{Everywhere}
use Rattle.guard_check.specs.CallGraphs.{AreCallLists}
use Rattle.guard_check.proofs.GraphLemmas.{is_graph, starts_within, is_call_graph}
use Rattle.guard_check.proofs.call_graphs.call_graph.Goals as goal

pub reachable-requires-clause-graph : goal.reachable-requires-clause-graph
reachable-requires-clause-graph c =
    let lists = subst (λ ds. AreCallLists Everywhere ds c.in_ok-all.all) c.as_slice.ensures.value c.in_ok-all.ensures in
    subst IsGraph (sym c.as_slice-2.ensures.value) (is_graph (plain_model c.args.model.now) c.requires Everywhere c.in_ok-all.all.items lists.lists_are)

pub reachable-requires-clause-start : goal.reachable-requires-clause-start
reachable-requires-clause-start c = λ a stands.
    let lists = subst (λ ds. AreCallLists Everywhere ds c.in_ok-all.all) c.as_slice.ensures.value c.in_ok-all.ensures in
    subst (λ e. a < length e) (sym c.as_slice-2.ensures.value)
    (starts_within (plain_model c.args.model.now) c.requires c.in_ok-start.start.items c.in_ok-all.all.items lists.lists_are c.in_ok-start.ensures a (subst (λ (l : List ℕ). Contains l a) c.as_slice-3.ensures.value stands))

pub returns : goal.returns
returns c =
    let lists = subst (λ ds. AreCallLists Everywhere ds c.in_ok-all.all) c.as_slice.ensures.value c.in_ok-all.ensures in
    let lists' = subst (λ ds. AreCallLists c.args.extent ds c.in_ok-edges.edges) c.as_slice-4.ensures.value c.in_ok-edges.ensures in
    let reached = subst (λ e. AreReached e c.in_ok-start.start.items c.in_ok-reached.reached.items) c.as_slice-2.ensures.value (subst (λ s. AreReached c.as_slice-2.result.now s c.in_ok-reached.reached.items) c.as_slice-3.ensures.value c.in_ok-reached.ensures) in
    is_call_graph (plain_model c.args.model.now) c.requires c.args.extent c.in_ok-all.all.items c.in_ok-edges.edges.items c.in_ok-start.start.items c.in_ok-reached.reached.items lists.lists_are lists'.lists_are c.in_ok-start.ensures reached
