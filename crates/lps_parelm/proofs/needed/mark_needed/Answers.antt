use Rattle.std.proofs.Common.{◌≡◌, length, map, subst, sym, ◌∙◌, ap, false, arith}
use Rattle.std.specs.Prelude.{Contains, slice_index_or}
use Rattle.data_theory.specs.declared.ids.TermId.{TermId}
use Rattle.graphs.specs.Graphs.{IsGraph, AreReached}
use Rattle.lps_core.specs.PlainLinears.{plain_linear}
use Rattle.lps_parelm.specs.Uses.{AreMarked}
use Rattle.lps_parelm.proofs.UseLoops.{uses_are_a_graph, shown_below}
use Rattle.lps_parelm.proofs.WholeElimination.{if_ok}
use Rattle.lps_parelm.proofs.needed.mark_needed.Goals as goal

pub reachable-requires-clause-graph : goal.reachable-requires-clause-graph
reachable-requires-clause-graph c = subst (λ z. IsGraph z) (sym c.as_slice.ensures.value) (uses_are_a_graph c.args.pool.now.trees c.args.params.now (plain_linear c.args.lin.now).summands c.in_ok-uses.uses.items c.in_ok-uses.ensures c.requires.summands c.requires.next)

pub reachable-requires-clause-start : goal.reachable-requires-clause-start
reachable-requires-clause-start c = λ a i.
    let low = shown_below c.args.pool.now.trees (plain_linear c.args.lin.now).summands c.requires.summands a (subst (λ z. Contains z a) (c.as_slice-2.ensures.value ∙ c.in_ok-shown.ensures) i) in
    let size = c.in_ok-uses.ensures.size in
    let same = ap length c.as_slice.ensures.value in
    omega (arith, low, size, same)

pub marks_of-requires : goal.marks_of-requires
marks_of-requires c = λ k d l.
    let low = c.requires.within k d l in
    let size = c.in_ok-uses.ensures.size in
    let reached = c.in_ok-reached.ensures.size in
    let edges = ap length c.as_slice.ensures.value in
    let same = ap length c.as_slice-3.ensures.value in
    omega (arith, low, size, reached, edges, same)

pub returns : goal.returns
returns c = if_ok c.marks_of.result (λ marks. marks.items ≡ map (λ (param : TermId). slice_index_or c.as_slice-3.result.now param.0 false) c.args.params.now)
    (λ marks. AreMarked c.args.pool.now.trees c.args.params.now (plain_linear c.args.lin.now).summands marks.items)
    (λ marks are. record {
      edges = c.in_ok-uses.uses.items;
      uses = c.in_ok-uses.ensures;
      reached = c.in_ok-reached.reached.items;
      exact = subst (λ z. AreReached c.in_ok-uses.uses.items z c.in_ok-reached.reached.items) (c.as_slice-2.ensures.value ∙ c.in_ok-shown.ensures)
          (subst (λ z. AreReached z c.as_slice-2.result.now c.in_ok-reached.reached.items) c.as_slice.ensures.value c.in_ok-reached.ensures);
      are = are ∙ ap (λ z. map (λ (param : TermId). slice_index_or z param.0 false) c.args.params.now) c.as_slice-3.ensures.value;
    }) c.marks_of.ensures
