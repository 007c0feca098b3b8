-- The layout of a whole text by its sections, and what it spells.
use Rattle.std.specs.Prelude.{◌≡◌, ◌&&◌, ℕ, Bool, true, false, List, [], ◌∷◌, ◌++◌, codes, get_or}
use Rattle.mcrl2_lexer.specs.declared.kind.Kind.{Kind}
use Rattle.mcrl2_lexer.specs.declared.kind.Kind.TheVariants as kind_
use Rattle.mcrl2_lexer.specs.declared.token.Token.{Token}
use Rattle.mcrl2_lexer.specs.Lexing.{HasTokens}
use Rattle.mcrl2_syntax.specs.declared.declaration.SectionWord.{SectionWord}
use Rattle.mcrl2_syntax.specs.declared.declaration.SectionWord.TheVariants as sections
use Rattle.mcrl2_syntax.specs.Declarations.{PlainDecl, PlainSpec}
use Rattle.mcrl2_syntax.specs.SpelledDeclarations.{SpellsDecl, SpellsSpec}
use Rattle.sort_table.specs.BareDeclarations.{Declaration, bare_declaration, Section, bare_sections}
use Rattle.lps_printer.specs.Pieces.{Piece, bytes_of, StandApart, Says, is_quiet}
use Rattle.lps_printer.specs.DataLayout.{piece}

abbrev pub section_kind : SectionWord → Kind
section_kind sections.Sort = kind_.Sort
section_kind sections.Cons = kind_.Cons
section_kind sections.Map = kind_.Map
section_kind sections.Var = kind_.Var
section_kind sections.Eqn = kind_.Eqn
section_kind sections.Act = kind_.Act
section_kind sections.Proc = kind_.Proc
section_kind sections.Init = kind_.Init

abbrev pub section_text : SectionWord → List ℕ
section_text sections.Sort = codes "sort"
section_text sections.Cons = codes "cons"
section_text sections.Map = codes "map"
section_text sections.Var = codes "var"
section_text sections.Eqn = codes "eqn"
section_text sections.Act = codes "act"
section_text sections.Proc = codes "proc"
section_text sections.Init = codes "init"

-- a section: its word, and the pieces of each declaration
pub record PrintedSection : Type 0 where
  pub word : SectionWord
  pub declarations : List (List Piece)

-- each declaration is followed by a semicolon
abbrev pub print_declarations : List (List Piece) → List Piece → List Piece
print_declarations [] rest = rest
print_declarations (ps ∷ pss) rest = ps ++ (piece [] kind_.Semicolon (codes ";") ∷ print_declarations pss rest)

-- each section begins a line
abbrev pub print_sections : List ℕ → List PrintedSection → List Piece
print_sections gap [] = []
print_sections gap (s ∷ ss) = piece gap (section_kind s.word) (section_text s.word) ∷ print_declarations s.declarations (print_sections (10 ∷ []) ss)

abbrev pub sections_text : List PrintedSection → List ℕ
sections_text ss = bytes_of (print_sections [] ss) (10 ∷ [])

-- ---- what it spells
pub record IsDeclared (text : List ℕ) (word : SectionWord) (ts : List Token) (d : Declaration) : Type 0 where
  pub tree : PlainDecl
  pub spells : SpellsDecl text word tree ts
  pub is : bare_declaration tree ≡ d

-- no token ends a declaration
abbrev pub inside_kind : Kind → Bool
inside_kind kind_.Semicolon = false
inside_kind kind_.Sort = false
inside_kind kind_.Cons = false
inside_kind kind_.Map = false
inside_kind kind_.Var = false
inside_kind kind_.Eqn = false
inside_kind kind_.Act = false
inside_kind kind_.Proc = false
inside_kind kind_.Init = false
inside_kind _ = true

abbrev pub all_inside : List Piece → Bool
all_inside [] = true
all_inside (p ∷ ps) = inside_kind p.kind && all_inside ps

-- in a section of this word the pieces are a declaration, behind white space
pub record Declares (word : SectionWord) (ps : List Piece) (d : Declaration) : Type 0 where
  pub apart : StandApart ps (10 ∷ [])
  pub spaced : is_quiet (get_or (bytes_of ps (10 ∷ [])) 0 0) ≡ true
  pub inside : all_inside ps ≡ true
  pub reads : (text : List ℕ) (ts : List Token) → Says text ps ts → IsDeclared text word ts d

pub data DeclareAll (word : SectionWord) : List (List Piece) → List Declaration → Type 0 where
  no_declarations : DeclareAll word [] []
  one_declaration : {ps : List Piece} {d : Declaration} {pss : List (List Piece)} {ds : List Declaration} → Declares word ps d → DeclareAll word pss ds → DeclareAll word (ps ∷ pss) (d ∷ ds)

pub data AreSections : List PrintedSection → List Section → Type 0 where
  no_sections_left : AreSections [] []
  one_section : {s : PrintedSection} {b : Section} {ss : List PrintedSection} {bs : List Section} → s.word ≡ b.word → DeclareAll s.word s.declarations b.declarations → AreSections ss bs → AreSections (s ∷ ss) (b ∷ bs)

pub record SpellsSections (text : List ℕ) (bs : List Section) : Type 0 where
  pub tokens : List Token
  pub cut : HasTokens text tokens
  pub spec : PlainSpec
  pub spells : SpellsSpec text spec tokens
  pub is : bare_sections spec ≡ bs

-- The bytes of sections spell a specification with just these sections.
abbrev pub SectionTextsSpellBack : Type 0
SectionTextsSpellBack = (ss : List PrintedSection) (bs : List Section) → AreSections ss bs → SpellsSections (sections_text ss) bs
