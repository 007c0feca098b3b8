use Rattle.std.proofs.Common.{◌≡◌, ◌<◌, ◌∙◌, ℕ, true, List, length, map, replicate, sym, ap, subst}
use Rattle.std.specs.List.{Contains}
use denote.Ref.{Bor}
use Rattle.graphs.specs.Graphs.{IsGraph, HasEdgeAmong, HasCycle}
use Rattle.graphs.specs.Cycles.{IsFirstCycle}
use Rattle.graphs.proofs.Paths.{cycle_below}
use Rattle.sort_table.specs.Expressions.{Name}
use Rattle.sort_table.specs.AliasGraphs.{AreNamesAt}
use Rattle.sort_table.specs.IndexedKinds.{kinds_of_index}
use Rattle.sort_table.proofs.AliasEdges.{is_graph, no_alias_cycle, first_alias_cycle}
use Rattle.sort_table.proofs.sort_cycles.first_sort_cycle.Goals as goal

pub first_cycle-requires-clause-graph : goal.first_cycle-requires-clause-graph
first_cycle-requires-clause-graph c = subst IsGraph (sym c.as_slice.ensures.value) (is_graph (kinds_of_index c.args.index.now) c.in_ok-edges.edges.items c.in_ok-edges.ensures)

pub names_at-requires : goal.names_at-requires
names_at-requires c = λ x stands.
    let first = rw c.in-Some.is at c.in_ok-found.ensures in
    let first' = subst (λ e. IsFirstCycle (HasEdgeAmong e c.in_ok-among.among.items) c.in-Some.cycle.items) c.as_slice.ensures.value (subst (λ r. IsFirstCycle (HasEdgeAmong c.as_slice.result.now r) c.in-Some.cycle.items) c.as_slice-2.ensures.value first) in
    subst (λ (n : ℕ). x < n) c.in_ok-edges.ensures.size
    (cycle_below c.in_ok-edges.edges.items c.in_ok-among.among.items c.in-Some.cycle.items first' x (subst (λ (l : List ℕ). Contains l x) c.as_slice-3.ensures.value stands))

pub returns-in_default : goal.returns-in_default
returns-in_default c = λ ds same.
    let none = rw c.in_default.is at c.in_ok-found.ensures in
    let none' = subst (λ e. ¬ (HasCycle (HasEdgeAmong e c.in_ok-among.among.items))) c.as_slice.ensures.value (subst (λ r. ¬ (HasCycle (HasEdgeAmong c.as_slice.result.now r))) c.as_slice-2.ensures.value none) in
    let all : c.in_ok-among.among.items ≡ replicate (length (kinds_of_index c.args.index.now)) true = c.in_ok-among.ensures.items_if_clones_equal (λ y e. e) ∙ ap (λ (n : ℕ). replicate n true) c.len.ensures in
    no_alias_cycle ds (kinds_of_index c.args.index.now) c.in_ok-edges.edges.items c.in_ok-among.among.items same c.in_ok-edges.ensures all none'

pub returns : goal.returns
returns c = λ ds same.
    let first = rw c.in-Some.is at c.in_ok-found.ensures in
    let first' = subst (λ e. IsFirstCycle (HasEdgeAmong e c.in_ok-among.among.items) c.in-Some.cycle.items) c.as_slice.ensures.value (subst (λ r. IsFirstCycle (HasEdgeAmong c.as_slice.result.now r) c.in-Some.cycle.items) c.as_slice-2.ensures.value first) in
    let all : c.in_ok-among.among.items ≡ replicate (length (kinds_of_index c.args.index.now)) true = c.in_ok-among.ensures.items_if_clones_equal (λ y e. e) ∙ ap (λ (n : ℕ). replicate n true) c.len.ensures in
    let named = subst (λ (l : List ℕ). AreNamesAt (kinds_of_index c.args.index.now) l (map (λ (n : Bor Name). n.now) c.in_ok-names.names.items)) c.as_slice-3.ensures.value c.in_ok-names.ensures in
    first_alias_cycle ds (kinds_of_index c.args.index.now) c.in_ok-edges.edges.items c.in_ok-among.among.items same c.in_ok-edges.ensures all c.in-Some.cycle.items (map (λ (n : Bor Name). n.now) c.in_ok-names.names.items) first' named
