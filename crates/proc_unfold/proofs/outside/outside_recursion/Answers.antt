use Rattle.std.proofs.Common.{ℕ, length, sym, subst}
use Rattle.std.proofs.lemmas.List.{length-map}
use Rattle.std.specs.Prelude.{None, Some}
use Rattle.graphs.specs.Graphs.{IsGraph, AreRanks}
use Rattle.process_terms.specs.PlainProcesses.{plain_model, plain_definition}
use Rattle.proc_unfold.specs.ParallelMarks.{MarksBoth, IsLeastWithin}
use Rattle.proc_unfold.proofs.ParallelNames.{has_no_recursion, parallelism_is}
use Rattle.proc_unfold.proofs.WithinLemmas.{first_stands, stands_outside}
use Rattle.proc_unfold.proofs.outside.outside_recursion.Goals as goal

pub ranks-requires-clause-graph : goal.ranks-requires-clause-graph
ranks-requires-clause-graph c = subst IsGraph (sym c.as_slice-3.ensures.value) c.in_ok-calls.ensures.graph

pub returns-in-Some-2-clause-refused : goal.returns-in-Some-2-clause-refused
returns-in-Some-2-clause-refused c =
    let m = plain_model c.args.model.now in
    let reached = c.in_ok-calls.calls.reached.items in
    let parallel = c.in_ok-parallel.parallel.items in
    let among = c.in_ok-among.among.items in
    let both = subst (λ p. MarksBoth reached p (length reached) among) c.as_slice-2.ensures.value (subst (λ r. MarksBoth r c.as_slice-2.result.now (length r) among) c.as_slice.ensures.value c.in_ok-among.ensures) in
    let ranks = rw c.in-Some.is at c.in_ok-ranks.ensures.ranks in
    let are = subst (λ e. AreRanks e among c.in-Some.ranks.items) c.as_slice-3.ensures.value (subst (λ r. AreRanks c.as_slice-3.result.now r c.in-Some.ranks.items) c.as_slice-4.ensures.value ranks) in
    let some = subst (IsLeastWithin m reached c.deref-2.result.now (length c.args.model.now.procs.items)) c.in-Some-2.is c.in_ok-declaration.ensures in
    let least = subst (λ (n : ℕ). IsLeastWithin m reached parallel n (Some c.in-Some-2.declaration)) (sym (length-map c.args.model.now.procs.items plain_definition)) (subst (λ p. IsLeastWithin m reached p (length c.args.model.now.procs.items) (Some c.in-Some-2.declaration)) c.deref-2.ensures.value some) in
    (first_stands m reached parallel c.in_ok-parallel.ensures c.in_ok-calls.ensures.reached_are c.in-Some-2.declaration least, (c.in-Some.ranks.items, has_no_recursion m c.in_ok-calls.calls.edges.items reached parallel among c.in_ok-calls.ensures c.in_ok-parallel.ensures both c.in-Some.ranks.items are))

pub returns-clause-found : goal.returns-clause-found
returns-clause-found c =
    let m = plain_model c.args.model.now in
    let reached = c.in_ok-calls.calls.reached.items in
    let parallel = c.in_ok-parallel.parallel.items in
    let among = c.in_ok-among.among.items in
    let both = subst (λ p. MarksBoth reached p (length reached) among) c.as_slice-2.ensures.value (subst (λ r. MarksBoth r c.as_slice-2.result.now (length r) among) c.as_slice.ensures.value c.in_ok-among.ensures) in
    let ranks = rw c.in-Some.is at c.in_ok-ranks.ensures.ranks in
    let are = subst (λ e. AreRanks e among c.in-Some.ranks.items) c.as_slice-3.ensures.value (subst (λ r. AreRanks c.as_slice-3.result.now r c.in-Some.ranks.items) c.as_slice-4.ensures.value ranks) in
    parallelism_is m c.in_ok-calls.calls.edges.items reached parallel among c.in_ok-calls.ensures c.in_ok-parallel.ensures both c.in-Some.ranks.items are

pub returns-clause-outside : goal.returns-clause-outside
returns-clause-outside c =
    let m = plain_model c.args.model.now in
    let reached = c.in_ok-calls.calls.reached.items in
    let parallel = c.in_ok-parallel.parallel.items in
    let among = c.in_ok-among.among.items in
    let both = subst (λ p. MarksBoth reached p (length reached) among) c.as_slice-2.ensures.value (subst (λ r. MarksBoth r c.as_slice-2.result.now (length r) among) c.as_slice.ensures.value c.in_ok-among.ensures) in
    let ranks = rw c.in-Some.is at c.in_ok-ranks.ensures.ranks in
    let are = subst (λ e. AreRanks e among c.in-Some.ranks.items) c.as_slice-3.ensures.value (subst (λ r. AreRanks c.as_slice-3.result.now r c.in-Some.ranks.items) c.as_slice-4.ensures.value ranks) in
    let none = subst (IsLeastWithin m reached c.deref-2.result.now (length c.args.model.now.procs.items)) c.in_default-2.is c.in_ok-declaration.ensures in
    let none' = subst (λ (n : ℕ). IsLeastWithin m reached parallel n None) (sym (length-map c.args.model.now.procs.items plain_definition)) (subst (λ p. IsLeastWithin m reached p (length c.args.model.now.procs.items) None) c.deref-2.ensures.value none) in
    stands_outside m reached parallel c.in_ok-parallel.ensures c.in_ok-calls.ensures.reached_are c.in-Some.ranks.items (has_no_recursion m c.in_ok-calls.calls.edges.items reached parallel among c.in_ok-calls.ensures c.in_ok-parallel.ensures both c.in-Some.ranks.items are) none'
