use Rattle.std.proofs.Common.{◌<◌, List, ℕ, length, refl, sym, subst}
use Rattle.std.specs.List.{Contains}
use Rattle.graphs.specs.Graphs.{IsGraph}
use Rattle.process_terms.specs.PlainProcesses.{plain_model}
use Rattle.guard_check.specs.declared.calls.Extent.TheVariants.{Everywhere}
use Rattle.guard_check.specs.CallGraphs.{AreCallLists}
use Rattle.guard_check.proofs.GraphLemmas.{is_graph, starts_within, calls_declared, not_told}
use Rattle.guard_check.proofs.call_graphs.has_declared_calls.Goals as goal

pub returns-then-not-is_graph : goal.returns-then-not-is_graph
returns-then-not-is_graph c =
    let lists = subst (λ ds. AreCallLists Everywhere ds c.in_ok-lists.lists) c.as_slice.ensures.value c.in_ok-lists.ensures in (
      λ told. absurd (not_told _ refl told),
      λ declared. absurd (not_told c.is_graph.result c.if-not-is_graph.true (c.is_graph.ensures.1 (subst IsGraph (sym c.as_slice-2.ensures.value) (is_graph (plain_model c.args.model.now) declared Everywhere c.in_ok-lists.lists.items lists.lists_are)))),
    )

pub returns : goal.returns
returns c =
    let lists = subst (λ ds. AreCallLists Everywhere ds c.in_ok-lists.lists) c.as_slice.ensures.value c.in_ok-lists.ensures in
    let graph = subst IsGraph c.as_slice-2.ensures.value (c.is_graph.ensures.0 c.if-not-is_graph.false) in (
      λ told. calls_declared (plain_model c.args.model.now) c.in_ok-lists.lists.items c.in_ok-start.start.items lists.lists_are c.in_ok-start.ensures graph
          (λ a stands. subst (λ e. a < length e) c.as_slice-3.ensures.value (c.are_nodes.ensures.0 told a (subst (λ (l : List ℕ). Contains l a) (sym c.as_slice-4.ensures.value) stands))),
      λ declared. c.are_nodes.ensures.1 (λ a stands. subst (λ e. a < length e) (sym c.as_slice-3.ensures.value)
          (starts_within (plain_model c.args.model.now) declared c.in_ok-start.start.items c.in_ok-lists.lists.items lists.lists_are c.in_ok-start.ensures a (subst (λ (l : List ℕ). Contains l a) c.as_slice-4.ensures.value stands))),
    )
