-- What tokens spell in a section is a declaration of its word.
use Rattle.std.proofs.Common.{◌≡◌, ℕ, List, refl}
use Rattle.std.specs.List.{AllByRecursion}
use Rattle.mcrl2_lexer.specs.declared.token.Token.{Token}
use Rattle.mcrl2_syntax.specs.declared.declaration.SectionWord.{SectionWord}
use Rattle.mcrl2_syntax.specs.Declarations.{PlainDecl, PlainSection}
use Rattle.mcrl2_syntax.specs.SpelledDeclarations.{SpellsDecl, decl_sorts, decl_alias, decl_struct, decl_cons, decl_map, decl_vars, decl_equation, decl_conditional, decl_acts, decl_acts_over, decl_proc, decl_proc_over, decl_init, SpellsDecls, no_decls, more_decls, SpellsSections, no_sections, more_sections}
use Rattle.sort_table.specs.PlacedSections.{word_of_declaration, IsPlacedSection, SpelledSpecsArePlaced}

its_word : (text : List ℕ) (word : SectionWord) (d : PlainDecl) (ts : List Token) → SpellsDecl text word d ts → word_of_declaration d ≡ word
its_word text _ _ _ (decl_sorts names) = refl
its_word text _ _ _ (decl_alias t e sort) = refl
its_word text _ _ _ (decl_struct t e w list) = refl
its_word text _ _ _ (decl_cons signature) = refl
its_word text _ _ _ (decl_map signature) = refl
its_word text _ _ _ (decl_vars groups) = refl
its_word text _ _ _ (decl_equation left e right) = refl
its_word text _ _ _ (decl_conditional condition a left e right) = refl
its_word text _ _ _ (decl_acts names) = refl
its_word text _ _ _ (decl_acts_over names c domain) = refl
its_word text _ _ _ (decl_proc t e body) = refl
its_word text _ _ _ (decl_proc_over t u vars v e body) = refl
its_word text _ _ _ (decl_init body) = refl

of_section : (text : List ℕ) (word : SectionWord) (ds : List PlainDecl) (ts r : List Token) → SpellsDecls text word ds ts r → AllByRecursion (λ (d : PlainDecl). word_of_declaration d ≡ word) ds
of_section text word _ _ _ no_decls = tt
of_section text word _ _ _ (more_decls {d = d} {ds = ds} {front = front} {us = us} {r = r} cut one rest) = (its_word text word d front one, of_section text word ds us r rest)

of_sections : (text : List ℕ) (ss : List PlainSection) (ts : List Token) → SpellsSections text ss ts → AllByRecursion IsPlacedSection ss
of_sections text _ _ no_sections = tt
of_sections text _ _ (more_sections {word = word} {ds = ds} {sections = sections} {ts = ts} {r = r} is one rest) = (of_section text word ds ts r one, of_sections text sections r rest)

pub spelled_specs_are_placed : SpelledSpecsArePlaced
spelled_specs_are_placed text spec tokens is = of_sections text spec.sections tokens is.all_sections
