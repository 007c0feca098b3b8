use Rattle.std.proofs.Common.{ℕ, ◌+◌, ◌++◌, List, drop, ap, sym, ◌∙◌}
use Rattle.std.specs.Prelude.{option_map}
use Rattle.mcrl2_syntax.specs.Declarations.{spec_of}
use Rattle.mcrl2_syntax.specs.declared.declaration.Decl.{Decl}
use Rattle.mcrl2_syntax.specs.declared.declaration.Section.{Section}
use Rattle.sort_table.specs.BareDeclarations.{bare_sections}
use Rattle.sort_checker.specs.Parts.{ScopedDeclaration, scoped_behind, scoped_declarations}
use Rattle.sort_checker.specs.Refusals.{first_from}
use Rattle.sort_checker.specs.RenamedTrees.{named_fault}
use Rattle.sort_checker.specs.ScopedTrees.{scoped_under, variables_under}
use Rattle.sort_checker.specs.UnknownTrees.{unknown_in}
use Rattle.sort_checker.proofs.LeftSides.{section_length}
use Rattle.sort_checker.proofs.NamesKnown.{known_over}
use Rattle.sort_checker.proofs.NumberedFirsts.{from_found, from_behind, drop_beyond}
use Rattle.sort_checker.proofs.ScopedLists.{bare_of, scoped_cut}
use Rattle.sort_checker.proofs.unknown_names.unknown_name.Goals as goal

pub returns-in-Some : goal.returns-in-Some
returns-in-Some c = λ v over.
    let known = known_over c.args.sig.now (bare_sections (spec_of c.args.spec.now)) v c.in_ok-known.known over c.in_ok-known.ensures in
    let items : List Section = c.deref-section-items.result.now in
    let ds : List Decl = c.as_slice-declarations.result.now in
    let rest : List ScopedDeclaration = scoped_behind (variables_under ds) (bare_of (drop (c.loop-section.section-index + 1) items)) in
    sym (from_found (unknown_in v) c.loop-section.number (named_fault c.in-Some.found) (scoped_under c.loop-section.before.now ds) rest (sym (c.in_ok-found.ensures v known) ∙ ap (option_map named_fault) c.in-Some.is))
    ∙ (ap (λ (xs : List Decl). first_from (unknown_in v) c.loop-section.number (scoped_under c.loop-section.before.now xs ++ scoped_behind (variables_under xs) (bare_of (drop (c.loop-section.section-index + 1) items)))) c.as_slice-declarations.ensures.value
    ∙ (ap (first_from (unknown_in v) c.loop-section.number) (sym (scoped_cut c.loop-section.before.now items c.loop-section.section-index c.section-item.result c.loop-section-test.true c.section-item.is))
    ∙ (c.loop-section.invariant v known ∙ ap (λ (ss : List Section). first_from (unknown_in v) 1 (scoped_declarations (bare_of ss))) c.deref-section-items.ensures.value)))

pub loop-section-preserved : goal.loop-section-preserved
loop-section-preserved c = λ v known.
    let items : List Section = c.deref-section-items.result.now in
    let ds : List Decl = c.as_slice-declarations.result.now in
    let rest : List ScopedDeclaration = scoped_behind (variables_under ds) (bare_of (drop (c.loop-section.section-index + 1) items)) in
    ap (λ (n : ℕ). first_from (unknown_in v) n rest) (c.in_ok-number.ensures ∙ ap (λ (n : ℕ). c.loop-section.number + n) (sym (section_length c.loop-section.before.now ds)))
    ∙ (sym (from_behind (unknown_in v) c.loop-section.number (scoped_under c.loop-section.before.now ds) rest (sym (c.in_ok-found.ensures v known) ∙ ap (option_map named_fault) c.in_default.is))
    ∙ (ap (λ (xs : List Decl). first_from (unknown_in v) c.loop-section.number (scoped_under c.loop-section.before.now xs ++ scoped_behind (variables_under xs) (bare_of (drop (c.loop-section.section-index + 1) items)))) c.as_slice-declarations.ensures.value
    ∙ (ap (first_from (unknown_in v) c.loop-section.number) (sym (scoped_cut c.loop-section.before.now items c.loop-section.section-index c.section-item.result c.loop-section-test.true c.section-item.is))
    ∙ c.loop-section.invariant v known)))

pub returns : goal.returns
returns c = λ v over.
    let known = known_over c.args.sig.now (bare_sections (spec_of c.args.spec.now)) v c.in_ok-known.known over c.in_ok-known.ensures in
    ap (λ (ss : List Section). first_from (unknown_in v) c.loop-section.number (scoped_behind (variables_under c.loop-section.before.now) (bare_of ss))) (sym (drop_beyond c.deref-section-items.result.now c.loop-section.section-index c.loop-section-test.false))
    ∙ (c.loop-section.invariant v known ∙ ap (λ (ss : List Section). first_from (unknown_in v) 1 (scoped_declarations (bare_of ss))) c.deref-section-items.ensures.value)
