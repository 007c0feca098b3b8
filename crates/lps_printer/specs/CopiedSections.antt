-- The layout of copied sections.
use Rattle.std.specs.Prelude.{ℕ, List, [], ◌∷◌, map, cond}
use Rattle.mcrl2_syntax.specs.Declarations.{PlainDecl, PlainSection}
use Rattle.mcrl2_syntax.specs.Copied.{is_copied}
use Rattle.lps_printer.specs.Pieces.{Piece}
use Rattle.lps_printer.specs.CopiedTokens.{copied}
use Rattle.lps_printer.specs.DataLayout.{space}
use Rattle.lps_printer.specs.TextSections.{PrintedSection}
use Rattle.lps_printer.specs.TreeTokens.{declaration_tokens}

-- a line of its own
abbrev pub further_line : List ℕ
further_line = 10 ∷ 32 ∷ 32 ∷ []

-- a declaration behind white space, without its semicolon
abbrev pub copied_declaration : List ℕ → PlainDecl → List Piece
copied_declaration gap d = copied gap (declaration_tokens d [])

-- the first one stands on the line of the word, each further one on a line of its own
abbrev pub copied_declarations : List PlainDecl → List (List Piece)
copied_declarations [] = []
copied_declarations (d ∷ ds) = copied_declaration space d ∷ map (copied_declaration further_line) ds

abbrev pub copied_section : PlainSection → PrintedSection
copied_section s = record { word = s.word; declarations = copied_declarations s.declarations }

-- the first of the sections, where it is copied
abbrev pub copied_first : List PlainSection → List PrintedSection
copied_first [] = []
copied_first (s ∷ ss) = cond (is_copied (s ∷ ss)) (copied_section s ∷ []) []

-- the sections that are copied, in their order
abbrev pub kept_sections : List PlainSection → List PlainSection
kept_sections [] = []
kept_sections (s ∷ ss) = cond (is_copied (s ∷ ss)) (s ∷ kept_sections ss) (kept_sections ss)

abbrev pub copied_sections : List PlainSection → List PrintedSection
copied_sections ss = map copied_section (kept_sections ss)
