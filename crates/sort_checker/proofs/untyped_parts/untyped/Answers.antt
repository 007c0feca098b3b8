use Rattle.std.proofs.Common.{ℕ, ◌+◌, ◌++◌, List, drop, ap, sym, ◌∙◌, subst}
use Rattle.data_theory.specs.Signature.{Sig}
use Rattle.mcrl2_syntax.specs.declared.declaration.Decl.{Decl}
use Rattle.mcrl2_syntax.specs.declared.declaration.Section.{Section}
use Rattle.sort_checker.specs.Parts.{ScopedDeclaration, scoped_behind, scoped_declarations}
use Rattle.sort_checker.specs.ReadyTrees.{AreReadyDeclarations, AreReadySections}
use Rattle.sort_checker.specs.Refusals.{number_from}
use Rattle.sort_checker.specs.ScopedTrees.{scoped_under, variables_under}
use Rattle.sort_checker.specs.TypedTrees.{is_untyped}
use Rattle.sort_checker.proofs.LeftSides.{numbers_found, numbers_behind, section_length}
use Rattle.sort_checker.proofs.NumberedFirsts.{drop_beyond}
use Rattle.sort_checker.proofs.ReadyLeaves.{holds_in, sections_ready}
use Rattle.sort_checker.proofs.ScopedLists.{bare_of, scoped_cut}
use Rattle.sort_checker.proofs.untyped_parts.untyped.Goals as goal

pub text_context-requires : goal.text_context-requires
text_context-requires c = sections_ready c.args.sig.now.texts c.args.spec.now c.requires.words c.requires.entered

pub untyped_in_section-requires-clause-ready : goal.untyped_in_section-requires-clause-ready
untyped_in_section-requires-clause-ready c = (let texts = c.args.sig.now.texts in
    let all = subst (AreReadySections texts) (sym c.deref-section-items.ensures.value) (sections_ready texts c.args.spec.now c.requires.words c.requires.entered) in
    let here = holds_in (λ (s : Section). AreReadyDeclarations texts s.declarations.items) c.deref-section-items.result.now all c.loop-section.section-index c.section-item.result c.loop-section-test.true c.section-item.is in
    subst (λ (g : Sig). AreReadyDeclarations g.texts c.as_slice-declarations.result.now) (sym c.in_ok-context.ensures.sig) (subst (AreReadyDeclarations texts) (sym c.as_slice-declarations.ensures.value) here))

pub returns-in-Some : goal.returns-in-Some
returns-in-Some c = λ v over.
    let known = c.in_ok-context.ensures.over v over in
    let items : List Section = c.deref-section-items.result.now in
    let ds : List Decl = c.as_slice-declarations.result.now in
    let rest : List ScopedDeclaration = scoped_behind (variables_under ds) (bare_of (drop (c.loop-section.section-index + 1) items)) in
    sym (numbers_found (is_untyped v) c.loop-section.number c.in-Some.found (scoped_under c.loop-section.before.now ds) rest (sym (c.in_ok-found.ensures v known) ∙ c.in-Some.is))
    ∙ (ap (λ (xs : List Decl). number_from (is_untyped v) c.loop-section.number (scoped_under c.loop-section.before.now xs ++ scoped_behind (variables_under xs) (bare_of (drop (c.loop-section.section-index + 1) items)))) c.as_slice-declarations.ensures.value
    ∙ (ap (number_from (is_untyped v) c.loop-section.number) (sym (scoped_cut c.loop-section.before.now items c.loop-section.section-index c.section-item.result c.loop-section-test.true c.section-item.is))
    ∙ (c.loop-section.invariant.rest v known ∙ ap (λ (ss : List Section). number_from (is_untyped v) 1 (scoped_declarations (bare_of ss))) c.deref-section-items.ensures.value)))

pub loop-section-preserved : goal.loop-section-preserved
loop-section-preserved c = record {
  ready = (let texts = c.args.sig.now.texts in
      let all = subst (AreReadySections texts) (sym c.deref-section-items.ensures.value) (sections_ready texts c.args.spec.now c.requires.words c.requires.entered) in
      let here = holds_in (λ (s : Section). AreReadyDeclarations texts s.declarations.items) c.deref-section-items.result.now all c.loop-section.section-index c.section-item.result c.loop-section-test.true c.section-item.is in
      subst (λ (g : Sig). AreReadyDeclarations g.texts c.as_slice-declarations.result.now) (sym c.in_ok-context.ensures.sig) (subst (AreReadyDeclarations texts) (sym c.as_slice-declarations.ensures.value) here));
  rest = λ v known.
      let items : List Section = c.deref-section-items.result.now in
      let ds : List Decl = c.as_slice-declarations.result.now in
      let rest : List ScopedDeclaration = scoped_behind (variables_under ds) (bare_of (drop (c.loop-section.section-index + 1) items)) in
      ap (λ (n : ℕ). number_from (is_untyped v) n rest) (c.in_ok-number.ensures ∙ ap (λ (n : ℕ). c.loop-section.number + n) (sym (section_length c.loop-section.before.now ds)))
      ∙ (sym (numbers_behind (is_untyped v) c.loop-section.number (scoped_under c.loop-section.before.now ds) rest (sym (c.in_ok-found.ensures v known) ∙ c.in_default.is))
      ∙ (ap (λ (xs : List Decl). number_from (is_untyped v) c.loop-section.number (scoped_under c.loop-section.before.now xs ++ scoped_behind (variables_under xs) (bare_of (drop (c.loop-section.section-index + 1) items)))) c.as_slice-declarations.ensures.value
      ∙ (ap (number_from (is_untyped v) c.loop-section.number) (sym (scoped_cut c.loop-section.before.now items c.loop-section.section-index c.section-item.result c.loop-section-test.true c.section-item.is))
      ∙ c.loop-section.invariant.rest v known)));
}

pub returns : goal.returns
returns c = λ v over.
    let known = c.in_ok-context.ensures.over v over in
    ap (λ (ss : List Section). number_from (is_untyped v) c.loop-section.number (scoped_behind (variables_under c.loop-section.before.now) (bare_of ss))) (sym (drop_beyond c.deref-section-items.result.now c.loop-section.section-index c.loop-section-test.false))
    ∙ (c.loop-section.invariant.rest v known ∙ ap (λ (ss : List Section). number_from (is_untyped v) 1 (scoped_declarations (bare_of ss))) c.deref-section-items.ensures.value)
