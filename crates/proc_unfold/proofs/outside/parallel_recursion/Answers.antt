use Rattle.std.proofs.Common.{◌<◌, List, ℕ, length, map, sym, subst}
use Rattle.std.proofs.lemmas.List.{length-map}
use Rattle.std.specs.List.{Contains}
use Rattle.graphs.specs.Graphs.{IsGraph, HasEdgeAmong}
use Rattle.graphs.specs.Cycles.{IsFirstCycle}
use Rattle.process_terms.specs.PlainProcesses.{plain_model, plain_definition}
use Rattle.guard_check.specs.Guards.{AreNamesOf}
use Rattle.proc_unfold.proofs.ParallelNames.{on_cycle, names_of_first}
use Rattle.proc_unfold.proofs.outside.parallel_recursion.Goals as goal

pub first_cycle-requires-clause-graph : goal.first_cycle-requires-clause-graph
first_cycle-requires-clause-graph c = subst IsGraph (sym c.as_slice.ensures.value) c.requires.calls.graph

pub names_of_cycle-requires : goal.names_of_cycle-requires
names_of_cycle-requires c = λ x stands.
    let first = rw c.in-Some.is at c.in_ok-cycle.ensures in
    let first' = subst (λ e. IsFirstCycle (HasEdgeAmong e c.args.among.now) c.in-Some.cycle.items) c.as_slice.ensures.value first in
    subst (λ ds. x < length ds) (sym c.as_slice-in-Some.ensures.value)
    (subst (λ k. x < k) (length-map c.args.model.now.procs.items plain_definition)
    (on_cycle (plain_model c.args.model.now) c.args.calls.now.edges.items c.args.calls.now.reached.items c.args.parallel.now c.args.among.now c.requires.calls c.requires.parallel c.requires.among c.in-Some.cycle.items first' x (subst (λ (l : List ℕ). Contains l x) c.as_slice-in-Some-2.ensures.value stands)))

pub returns : goal.returns
returns c =
    let first = rw c.in-Some.is at c.in_ok-cycle.ensures in
    let first' = subst (λ e. IsFirstCycle (HasEdgeAmong e c.args.among.now) c.in-Some.cycle.items) c.as_slice.ensures.value first in
    let named = subst (λ ds. AreNamesOf (map plain_definition ds) c.in-Some.cycle.items c.in_ok-names_of_cycle-in-Some.field-0.items) c.as_slice-in-Some.ensures.value
    (subst (λ l. AreNamesOf (map plain_definition c.as_slice-in-Some.result.now) l c.in_ok-names_of_cycle-in-Some.field-0.items) c.as_slice-in-Some-2.ensures.value c.in_ok-names_of_cycle-in-Some.ensures) in
    names_of_first (plain_model c.args.model.now) c.args.calls.now.edges.items c.args.calls.now.reached.items c.args.parallel.now c.args.among.now c.requires.calls c.requires.parallel c.requires.among c.in-Some.cycle.items c.in_ok-names_of_cycle-in-Some.field-0.items first' named
