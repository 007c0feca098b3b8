use Rattle.std.proofs.Common.{◌≡◌, ◌<◌, ◌∙◌, ℕ, List, true, length, replicate, sym, ap, subst, arith}
use Rattle.std.specs.Prelude.{slice_index}
use Rattle.graphs.proofs.Kept.{if_ok_map}
use Rattle.graphs.specs.Graphs.{IsGraph, HasEdgeAmong, HasCycle, AreRanks}
use Rattle.sort_table.specs.IndexedKinds.{kinds_of_index}
use Rattle.sort_table.specs.DeclaringSorts.{AreByRank}
use Rattle.sort_table.proofs.AliasEdges.{is_graph}
use Rattle.sort_table.proofs.FirstPlaces.{no_graph_cycle, are_levels}
use Rattle.sort_table.proofs.alias_levels.alias_levels.Goals as goal

pub ranks-requires-clause-graph : goal.ranks-requires-clause-graph
ranks-requires-clause-graph c = subst IsGraph (sym c.as_slice.ensures.value) (is_graph (kinds_of_index c.args.index.now) c.in_ok-edges.edges.items c.in_ok-edges.ensures)

pub unreachable-requires : goal.unreachable-requires
unreachable-requires c =
    let cycle = rw c.in_default.is at c.in_ok-found.ensures.ranks in
    let cycle' = subst (λ e. HasCycle (HasEdgeAmong e c.in_ok-among.among.items)) c.as_slice.ensures.value (subst (λ r. HasCycle (HasEdgeAmong c.as_slice.result.now r)) c.as_slice-2.ensures.value cycle) in
    let all : c.in_ok-among.among.items ≡ replicate (length (kinds_of_index c.args.index.now)) true = c.in_ok-among.ensures.items_if_clones_equal (λ y e. e) ∙ ap (λ (n : ℕ). replicate n true) c.len.ensures in
    no_graph_cycle c.requires.0 (kinds_of_index c.args.index.now) c.in_ok-edges.edges.items c.in_ok-among.among.items c.requires.1 c.in_ok-edges.ensures all c.requires.3 cycle'

pub by_rank-requires : goal.by_rank-requires
by_rank-requires c = λ place l.
    let are = rw c.in-Some.is at c.in_ok-found.ensures.ranks in
    let same : c.as_slice-3.result.now ≡ c.in-Some.places.items = c.as_slice-3.ensures.value in
    subst (λ (xs : List ℕ). place < length xs → slice_index xs place < length xs) (sym same) (λ m. let b = are.below place (omega (arith, m, are.size)) in omega (arith, b, are.size)) l

pub returns : goal.returns
returns c =
    let are = rw c.in-Some.is at c.in_ok-found.ensures.ranks in
    let are' = subst (λ e. AreRanks e c.in_ok-among.among.items c.in-Some.places.items) c.as_slice.ensures.value (subst (λ r. AreRanks c.as_slice.result.now r c.in-Some.places.items) c.as_slice-2.ensures.value are) in
    let all : c.in_ok-among.among.items ≡ replicate (length (kinds_of_index c.args.index.now)) true = c.in_ok-among.ensures.items_if_clones_equal (λ y e. e) ∙ ap (λ (n : ℕ). replicate n true) c.len.ensures in
    if_ok_map c.by_rank.result _ _ (λ levels by. are_levels c.requires.0 (kinds_of_index c.args.index.now) c.in_ok-edges.edges.items c.in_ok-among.among.items c.requires.1 c.in_ok-edges.ensures all c.in-Some.places.items levels.items are'
    (subst (λ (xs : List ℕ). AreByRank xs (length xs) levels.items) c.as_slice-3.ensures.value by)) c.by_rank.ensures
