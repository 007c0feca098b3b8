use Rattle.std.proofs.Common.{◌++◌, List, map, take, refl, ap, sym, ◌∙◌, arith}
use Rattle.std.proofs.lemmas.Simd.{map-map}
use Rattle.mcrl2_syntax.specs.declared.declaration.Decl.{Decl}
use Rattle.mcrl2_syntax.specs.declared.declaration.Section.{Section}
use Rattle.mcrl2_syntax.specs.Declarations.{section_of, plain_decl}
use Rattle.sort_table.specs.BareDeclarations.{Declaration, bare_section, bare_declaration, declarations_in}
use Rattle.sort_table.specs.DeclarationTrees.{declaration_of}
use Rattle.sort_table.proofs.Searches.{IsListed, listed_more}
use Rattle.lin_driver.proofs.terminating.declaration_list.Goals as goal

of_sections : List Section → List Declaration
of_sections ss = declarations_in (map bare_section (map section_of ss))

of_section : Section → List Declaration
of_section s = map declaration_of s.declarations.items

listed : IsListed of_sections of_section
unfolding of_sections of_section
listed = record { of_none = refl; of_more = λ s ss. ap (λ ds. ds ++ declarations_in (map bare_section (map section_of ss))) (map-map bare_declaration plain_decl s.declarations.items) }

pub loop-section-preserved : goal.loop-section-preserved
unfolding of_sections of_section
loop-section-preserved c =
    c.in_ok-add_declarations.ensures ∙ (ap (λ (ds : List Declaration). ds ++ map declaration_of c.as_slice.result.now) c.loop-section.invariant
    ∙ (ap (λ (ds : List Decl). of_sections (take c.loop-section.section-index c.deref-section-items.result.now) ++ map declaration_of ds) c.as_slice.ensures.value
    ∙ sym (listed_more of_sections of_section listed c.deref-section-items.result.now c.loop-section.section-index c.section-item.result (omega arith) c.section-item.is)))
