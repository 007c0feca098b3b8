use Rattle.std.proofs.Common.{ℕ, ◌+◌, ◌++◌, List, drop, ap, sym, ◌∙◌}
use Rattle.mcrl2_syntax.specs.declared.declaration.Decl.{Decl}
use Rattle.mcrl2_syntax.specs.declared.declaration.Section.{Section}
use Rattle.sort_checker.specs.Parts.{ScopedDeclaration, scoped_behind, scoped_declarations}
use Rattle.sort_checker.specs.Faults.{has_variable_left}
use Rattle.sort_checker.specs.LeftTrees.{left_from}
use Rattle.sort_checker.specs.ScopedTrees.{scoped_under, variables_under}
use Rattle.sort_checker.proofs.ScopedLists.{bare_of, scoped_cut}
use Rattle.sort_checker.proofs.LeftSides.{numbers_found, numbers_behind, section_length}
use Rattle.sort_checker.proofs.left_sides.variable_left.Goals as goal

pub returns-in-Some : goal.returns-in-Some
returns-in-Some c =
    let items : List Section = c.deref-section-items.result.now in
    let ds : List Decl = c.as_slice-declarations.result.now in
    let rest : List ScopedDeclaration = scoped_behind (variables_under ds) (bare_of (drop (c.loop-section.section-index + 1) items)) in
    sym (numbers_found has_variable_left c.loop-section.number c.in-Some.found (scoped_under c.loop-section.before.now ds) rest (sym c.in_ok-found.ensures ∙ c.in-Some.is))
    ∙ (ap (λ (xs : List Decl). left_from c.loop-section.number (scoped_under c.loop-section.before.now xs ++ scoped_behind (variables_under xs) (bare_of (drop (c.loop-section.section-index + 1) items)))) c.as_slice-declarations.ensures.value
    ∙ (ap (left_from c.loop-section.number) (sym (scoped_cut c.loop-section.before.now items c.loop-section.section-index c.section-item.result c.loop-section-test.true c.section-item.is))
    ∙ (c.loop-section.invariant ∙ ap (λ (ss : List Section). left_from 1 (scoped_declarations (bare_of ss))) c.deref-section-items.ensures.value)))

pub loop-section-preserved : goal.loop-section-preserved
loop-section-preserved c =
    let items : List Section = c.deref-section-items.result.now in
    let ds : List Decl = c.as_slice-declarations.result.now in
    let rest : List ScopedDeclaration = scoped_behind (variables_under ds) (bare_of (drop (c.loop-section.section-index + 1) items)) in
    ap (λ (n : ℕ). left_from n rest) (c.in_ok-number.ensures ∙ ap (λ (n : ℕ). c.loop-section.number + n) (sym (section_length c.loop-section.before.now ds)))
    ∙ (sym (numbers_behind has_variable_left c.loop-section.number (scoped_under c.loop-section.before.now ds) rest (sym c.in_ok-found.ensures ∙ c.in_default.is))
    ∙ (ap (λ (xs : List Decl). left_from c.loop-section.number (scoped_under c.loop-section.before.now xs ++ scoped_behind (variables_under xs) (bare_of (drop (c.loop-section.section-index + 1) items)))) c.as_slice-declarations.ensures.value
    ∙ (ap (left_from c.loop-section.number) (sym (scoped_cut c.loop-section.before.now items c.loop-section.section-index c.section-item.result c.loop-section-test.true c.section-item.is))
    ∙ c.loop-section.invariant)))
