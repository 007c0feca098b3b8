-- Declarations with the numbers of their sections.
use Rattle.std.specs.Prelude.{ℕ, List, map}
use denote.Ref.{Bor}
use Rattle.mcrl2_syntax.specs.declared.declaration.Decl.{Decl}
use Rattle.mcrl2_syntax.specs.declared.declaration.Spec.{Spec}
use Rattle.mcrl2_syntax.specs.Declarations.{spec_of}
use Rattle.sort_table.specs.BareDeclarations.{Section, bare_sections}
use Rattle.sort_table.specs.Duplicates.{Item, items_of}
use Rattle.sort_table.specs.DeclarationTrees.{declaration_of}

abbrev pub placed_items : ℕ × Bor Decl → List Item
placed_items p = items_of p.0 (declaration_of p.1.now)

abbrev pub all_placed : List (ℕ × Bor Decl) → List (List Item)
all_placed ps = map placed_items ps

-- the items of the declarations of one section
abbrev pub section_items : ℕ → List Decl → List (List Item)
section_items k ds = map (λ (d : Decl). items_of k (declaration_of d)) ds

abbrev pub sections_of_text : Spec → List Section
sections_of_text s = bare_sections (spec_of s)
