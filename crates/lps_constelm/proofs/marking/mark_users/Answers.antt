use Rattle.std.proofs.Common.{◌≡◌, ◌∙◌, ap, length, map, subst, sym, false, arith}
use Rattle.std.specs.Prelude.{slice_index_or}
use Rattle.data_theory.specs.declared.ids.TermId.{TermId}
use Rattle.graphs.specs.Graphs.{IsGraph, AreReached}
use Rattle.lps_parelm.proofs.WholeElimination.{if_ok}
use Rattle.lps_constelm.specs.Putting.{LeadTo}
use Rattle.lps_constelm.proofs.MarkingSteps.{turned_graph}
use Rattle.lps_constelm.proofs.marking.mark_users.Goals as goal

pub reachable-requires-clause-graph : goal.reachable-requires-clause-graph
reachable-requires-clause-graph c = subst IsGraph (sym c.as_slice.ensures.value) (turned_graph c.args.uses.now c.in_ok-back.back.items c.in_ok-back.ensures)

pub reachable-requires-clause-start : goal.reachable-requires-clause-start
reachable-requires-clause-start c = λ a i.
    let low = c.requires.start a i in
    let size = c.in_ok-back.ensures.size in
    let same = ap length c.as_slice.ensures.value in
    omega (arith, low, size, same)

pub marks_of-requires : goal.marks_of-requires
marks_of-requires c = λ k d l.
    let low = c.requires.params k d l in
    let size = c.in_ok-back.ensures.size in
    let reached = c.in_ok-reached.ensures.size in
    let edges = ap length c.as_slice.ensures.value in
    let same = ap length c.as_slice-2.ensures.value in
    omega (arith, low, size, reached, edges, same)

pub returns : goal.returns
returns c = if_ok c.marks_of.result (λ marks. marks.items ≡ map (λ (param : TermId). slice_index_or c.as_slice-2.result.now param.0 false) c.args.params.now)
    (λ marks. LeadTo c.args.uses.now c.args.start.now c.args.params.now marks.items)
    (λ marks are. record {
      back = c.in_ok-back.back.items;
      turned = c.in_ok-back.ensures;
      reached = c.in_ok-reached.reached.items;
      exact = subst (λ z. AreReached z c.args.start.now c.in_ok-reached.reached.items) c.as_slice.ensures.value c.in_ok-reached.ensures;
      marks_are = are ∙ ap (λ z. map (λ (param : TermId). slice_index_or z param.0 false) c.args.params.now) c.as_slice-2.ensures.value;
    }) c.marks_of.ensures
