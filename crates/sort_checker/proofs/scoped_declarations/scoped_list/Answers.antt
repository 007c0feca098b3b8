use Rattle.std.proofs.Common.{ap, ◌+◌, ◌∙◌, ◌++◌, List, drop, sym, subst}
use Rattle.mcrl2_syntax.specs.declared.declaration.Decl.{Decl}
use Rattle.mcrl2_syntax.specs.declared.declaration.Section.{Section}
use Rattle.sort_checker.specs.Parts.{ScopedDeclaration, scoped_behind, scoped_declarations}
use Rattle.sort_checker.specs.ReadyTrees.{AreReadyDeclarations, AreReadySections}
use Rattle.sort_checker.specs.ScopedTrees.{scoped_items, scoped_under, variables_under}
use Rattle.sort_checker.proofs.ReadLists.{at_one}
use Rattle.sort_checker.proofs.ScopedLists.{bare_of, scoped_step}
use Rattle.sort_checker.proofs.scoped_declarations.scoped_list.Goals as goal

pub loop-section-preserved : goal.loop-section-preserved
loop-section-preserved c = record {
  items =
      let items : List Section = c.deref-section-items.result.now in
      let done : List ScopedDeclaration = scoped_items c.loop-section.list.items in
      let rest : List Section = drop (c.loop-section.section-index + 1) items in
      (λ i. c.in_ok-add_section.ensures.items i ++ scoped_behind (variables_under (c.as_slice-before.ensures.value i)) (bare_of rest))
      ∙ (ap (λ (ds : List Decl). (done ++ scoped_under c.loop-section.before.now ds) ++ scoped_behind (variables_under c.section-item.result.declarations.items) (bare_of rest)) c.as_slice.ensures.value
      ∙ scoped_step done (scoped_declarations (bare_of items)) c.loop-section.before.now items c.loop-section.section-index c.section-item.result c.loop-section-test.true c.section-item.is c.loop-section.invariant.items);
  ready = λ texts all.
      let so_far = c.loop-section.invariant.ready texts all in
      let here = at_one (λ (s : Section). AreReadyDeclarations texts s.declarations.items) c.deref-section-items.result.now c.loop-section.section-index c.section-item.result c.loop-section-test.true c.section-item.is all in (
        subst (AreReadyDeclarations texts) (sym c.as_slice-before.ensures.value) here,
        c.in_ok-add_section.ensures.ready texts so_far.0 (subst (AreReadyDeclarations texts) (sym c.as_slice.ensures.value) here) so_far.1,
      );
}

pub returns-clause-ready : goal.returns-clause-ready
returns-clause-ready c = λ texts all. (c.loop-section.invariant.ready texts (subst (AreReadySections texts) (sym c.deref-section-items.ensures.value) all)).1
