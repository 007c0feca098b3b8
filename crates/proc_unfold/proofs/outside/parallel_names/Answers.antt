use Rattle.std.proofs.Common.{◌≡◌, ◌∙◌, ◌<◌, ◌↔◌, Bool, List, ℕ, length, refl, sym, ap, subst, arith}
use Rattle.std.specs.List.{Contains}
use Rattle.std.proofs.lemmas.List.{length-map}
use Rattle.graphs.specs.Graphs.{IsGraph, IsMarked, IsReversed, AreReached}
use Rattle.graphs.proofs.Marks.{marked_below}
use Rattle.graphs.proofs.Paths.{turned_graph}
use Rattle.process_terms.specs.PlainProcesses.{plain_model, plain_process, plain_definition}
use Rattle.process_terms.specs.declared.definitions.ProcDef.{ProcDef}
use Rattle.proc_unfold.specs.ParallelTests.{has_parallel}
use Rattle.proc_unfold.proofs.ParallelNames.{body_marks, are_parallel_names}
use Rattle.proc_unfold.proofs.outside.parallel_names.Goals as goal

pub reversed-requires : goal.reversed-requires
reversed-requires c = subst IsGraph (sym c.as_slice-3.ensures.value) c.requires.graph

pub reachable-requires-clause-graph : goal.reachable-requires-clause-graph
reachable-requires-clause-graph c = subst IsGraph (sym c.as_slice-4.ensures.value) (turned_graph c.as_slice-3.result.now c.in_ok-callers.callers.items c.in_ok-callers.ensures)

pub reachable-requires-clause-start : goal.reachable-requires-clause-start
reachable-requires-clause-start c = λ a stands.
    let marks : c.in_ok-bodies.bodies.items ≡ body_marks c.args.model.now.procs.items = c.in_ok-bodies.ensures ∙ ap body_marks c.as_slice.ensures.value in
    let started : IsMarked c.as_slice-2.result.now a = (c.in_ok-starts.ensures a).0 (subst (λ (l : List ℕ). Contains l a) c.as_slice-5.ensures.value stands) in
    let below : a < length c.as_slice-2.result.now = marked_below c.as_slice-2.result.now a started in
    let size : length c.as_slice-2.result.now ≡ length c.args.model.now.procs.items = ap length (c.as_slice-2.ensures.value ∙ marks) ∙ length-map c.args.model.now.procs.items (λ (d : ProcDef). has_parallel (plain_process d.body)) in
    let count : length c.args.calls.now.edges.items ≡ length c.args.model.now.procs.items = c.requires.size ∙ length-map c.args.model.now.procs.items plain_definition in
    let turned : length c.as_slice-4.result.now ≡ length c.args.calls.now.edges.items = ap length c.as_slice-4.ensures.value ∙ (c.in_ok-callers.ensures.size ∙ ap length c.as_slice-3.ensures.value) in
    omega (arith, below, size, count, turned)

pub returns : goal.returns
returns c =
    let marks : c.in_ok-bodies.bodies.items ≡ body_marks c.args.model.now.procs.items = c.in_ok-bodies.ensures ∙ ap body_marks c.as_slice.ensures.value in
    let turned : IsReversed c.args.calls.now.edges.items c.in_ok-callers.callers.items = subst (λ e. IsReversed e c.in_ok-callers.callers.items) c.as_slice-3.ensures.value c.in_ok-callers.ensures in
    let are : AreReached c.in_ok-callers.callers.items c.in_ok-starts.starts.items c.in_ok-reachable.field-0.items = subst (λ e. AreReached e c.in_ok-starts.starts.items c.in_ok-reachable.field-0.items) c.as_slice-4.ensures.value (subst (λ s. AreReached c.as_slice-4.result.now s c.in_ok-reachable.field-0.items) c.as_slice-5.ensures.value c.in_ok-reachable.ensures) in
    let begins : (x : ℕ) → Contains c.in_ok-starts.starts.items x ↔ IsMarked (body_marks c.args.model.now.procs.items) x = λ x. subst (λ (l : List Bool). Contains c.in_ok-starts.starts.items x ↔ IsMarked l x) (c.as_slice-2.ensures.value ∙ marks) (c.in_ok-starts.ensures x) in
    are_parallel_names c.args.model.now.procs.items (plain_model c.args.model.now) refl c.args.calls.now.edges.items c.in_ok-callers.callers.items c.args.calls.now.reached.items c.in_ok-reachable.field-0.items c.requires turned c.in_ok-starts.starts.items begins are
