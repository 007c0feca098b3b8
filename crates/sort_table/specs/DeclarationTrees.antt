-- The declarations that trees are.
use Rattle.std.specs.Prelude.{List, map}
use Rattle.mcrl2_syntax.specs.declared.declaration.Decl.{Decl}
use Rattle.mcrl2_syntax.specs.declared.declaration.Spec.{Spec}
use Rattle.mcrl2_syntax.specs.Declarations.{plain_decl, spec_of}
use Rattle.sort_table.specs.BareDeclarations.{Declaration, bare_declaration, bare_sections, declarations_in}
use denote.Ref.{Bor}

abbrev pub declaration_of : Decl → Declaration
declaration_of d = bare_declaration (plain_decl d)

abbrev pub declarations_under : List (Bor Decl) → List Declaration
declarations_under ds = map (λ (d : Bor Decl). declaration_of d.now) ds

-- the declarations of a specification, in the order of the text
abbrev pub declarations_of_text : Spec → List Declaration
declarations_of_text s = declarations_in (bare_sections (spec_of s))
