use Rattle.std.proofs.Common.{◌<◌, List, ℕ, length, map, sym, subst}
use Rattle.std.proofs.lemmas.List.{length-map}
use Rattle.std.specs.List.{Contains}
use Rattle.graphs.specs.Graphs.{IsGraph, HasEdgeAmong, AreRanks}
use Rattle.graphs.specs.Cycles.{IsFirstCycle}
use Rattle.process_terms.specs.PlainProcesses.{plain_model, plain_definition}
use Rattle.guard_check.specs.declared.calls.Extent.TheVariants.{BeforeActions}
use Rattle.guard_check.specs.Guards.{AreNamesOf}
use Rattle.guard_check.proofs.CycleLemmas.{ranks_guard, has_ranks, on_cycle, names_of_first}
use Rattle.guard_check.proofs.checking.check.Goals as goal

pub ranks-requires-clause-graph : goal.ranks-requires-clause-graph
ranks-requires-clause-graph c = subst IsGraph (sym c.as_slice.ensures.value) c.in_ok-leading.ensures.graph

pub invariant_of-result : goal.invariant_of-result
invariant_of-result c =
    let are = rw c.in-Some.is at c.in_ok-found.ensures.ranks in
    let are' = subst (λ e. AreRanks e c.in_ok-leading.leading.reached.items c.in-Some.ranks.items) c.as_slice.ensures.value (subst (λ r. AreRanks c.as_slice.result.now r c.in-Some.ranks.items) c.as_slice-2.ensures.value are) in
    record { ranked = has_ranks (plain_model c.args.model.now) c.in_ok-leading.leading.edges.items c.in_ok-leading.leading.reached.items c.in_ok-leading.ensures c.in-Some.ranks.items are' }

pub returns-in-Some-clause-guarded : goal.returns-in-Some-clause-guarded
returns-in-Some-clause-guarded c =
    let are = rw c.in-Some.is at c.in_ok-found.ensures.ranks in
    let are' = subst (λ e. AreRanks e c.in_ok-leading.leading.reached.items c.in-Some.ranks.items) c.as_slice.ensures.value (subst (λ r. AreRanks c.as_slice.result.now r c.in-Some.ranks.items) c.as_slice-2.ensures.value are) in
    ranks_guard (plain_model c.args.model.now) c.in-Some.ranks.items (has_ranks (plain_model c.args.model.now) c.in_ok-leading.leading.edges.items c.in_ok-leading.leading.reached.items c.in_ok-leading.ensures c.in-Some.ranks.items are')

pub first_cycle-requires-clause-graph : goal.first_cycle-requires-clause-graph
first_cycle-requires-clause-graph c = subst IsGraph (sym c.as_slice-3.ensures.value) c.in_ok-leading.ensures.graph

pub names_of_cycle-requires : goal.names_of_cycle-requires
names_of_cycle-requires c = λ x stands.
    let first = rw c.in-Some-2.is at c.in_ok-cycle.ensures in
    let first' = subst (λ e. IsFirstCycle (HasEdgeAmong e c.in_ok-leading.leading.reached.items) c.in-Some-2.cycle.items) c.as_slice-3.ensures.value (subst (λ r. IsFirstCycle (HasEdgeAmong c.as_slice-3.result.now r) c.in-Some-2.cycle.items) c.as_slice-4.ensures.value first) in
    subst (λ ds. x < length ds) (sym c.as_slice-in-Some-2.ensures.value)
    (subst (λ k. x < k) (length-map c.args.model.now.procs.items plain_definition) (on_cycle BeforeActions (plain_model c.args.model.now) c.in_ok-leading.leading.edges.items c.in_ok-leading.leading.reached.items c.in_ok-leading.ensures c.in-Some-2.cycle.items first' x (subst (λ (l : List ℕ). Contains l x) c.as_slice-in-Some-2-2.ensures.value stands)))

pub returns-clause-unguarded : goal.returns-clause-unguarded
returns-clause-unguarded c =
    let first = rw c.in-Some-2.is at c.in_ok-cycle.ensures in
    let first' = subst (λ e. IsFirstCycle (HasEdgeAmong e c.in_ok-leading.leading.reached.items) c.in-Some-2.cycle.items) c.as_slice-3.ensures.value (subst (λ r. IsFirstCycle (HasEdgeAmong c.as_slice-3.result.now r) c.in-Some-2.cycle.items) c.as_slice-4.ensures.value first) in
    let named = subst (λ ds. AreNamesOf (map plain_definition ds) c.in-Some-2.cycle.items c.in_ok-names_of_cycle-in-Some-2.field-0.items) c.as_slice-in-Some-2.ensures.value
    (subst (λ l. AreNamesOf (map plain_definition c.as_slice-in-Some-2.result.now) l c.in_ok-names_of_cycle-in-Some-2.field-0.items) c.as_slice-in-Some-2-2.ensures.value c.in_ok-names_of_cycle-in-Some-2.ensures) in
    names_of_first BeforeActions (plain_model c.args.model.now) c.in_ok-leading.leading.edges.items c.in_ok-leading.leading.reached.items c.in_ok-leading.ensures c.in-Some-2.cycle.items c.in_ok-names_of_cycle-in-Some-2.field-0.items first' named
