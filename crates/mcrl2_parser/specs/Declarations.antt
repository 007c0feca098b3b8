-- The declarations of a list of tokens. First the list is parted into sections, then each section into the tokens of its
-- declarations, and then these get their places.
use Rattle.std.specs.Prelude.{◌≤◌, ℕ, ◌+◌, Bool, true, false, if◌then◌else◌, nat_lt, Option, Some, None, List, [], ◌∷◌, ◌++◌, length}
use Rattle.mcrl2_lexer.specs.declared.token.Token.{Token}
use Rattle.mcrl2_syntax.specs.declared.declaration.SectionWord.{SectionWord}
use Rattle.mcrl2_parser.specs.declared.declaring.Declaration.{Declaration}
use Rattle.mcrl2_syntax.specs.SpelledDeclarations.{section_word}
use Rattle.mcrl2_parser.specs.Sections.{is_semicolon}

-- a section: which one it is, and the tokens behind its word
pub record SectionTokens : Type 0 where
  pub section : SectionWord
  pub tokens : List Token

-- the tokens in front of the first word of a section, and the sections
pub record Parts : Type 0 where
  pub front : List Token
  pub sections : List SectionTokens

-- A word of a section begins one. Any other token stands where those behind it do.
abbrev pub with_token : Option SectionWord → Token → Parts → Parts
with_token None token parts = record { front = token ∷ parts.front; sections = parts.sections }
with_token (Some s) token parts = record { front = []; sections = record { section = s; tokens = parts.front } ∷ parts.sections }

abbrev pub parts_of : List Token → Parts
parts_of [] = record { front = []; sections = [] }
parts_of (token ∷ tokens) = with_token (section_word token.kind) token (parts_of tokens)

-- the tokens of a section: those in front of each `;`, and those behind the last one
pub record Pieces : Type 0 where
  pub ended : List (List Token)
  pub left : List Token

-- a token that is no `;` belongs to the first piece
abbrev pub with_first : Token → List (List Token) → List Token → Pieces
with_first token [] left = record { ended = []; left = token ∷ left }
with_first token (piece ∷ pieces) left = record { ended = (token ∷ piece) ∷ pieces; left = left }

-- a `;` ends an empty piece, to which the tokens in front of it come
abbrev pub with_piece_token : Bool → Token → Pieces → Pieces
with_piece_token true token pieces = record { ended = [] ∷ pieces.ended; left = pieces.left }
with_piece_token false token pieces = with_first token pieces.ended pieces.left

abbrev pub pieces_of : List Token → Pieces
pieces_of [] = record { ended = []; left = [] }
pieces_of (token ∷ tokens) = with_piece_token (is_semicolon token.kind) token (pieces_of tokens)

-- the declaration of tokens that no `;` ends, if there are any
abbrev pub left_over : Option SectionWord → ℕ → ℕ → List Declaration
left_over section start end = if nat_lt start end then record { section = section; start = start; end = end; is_ended = false } ∷ [] else []

-- a declaration, or none
abbrev pub listed : Option Declaration → List Declaration
listed None = []
listed (Some declaration) = declaration ∷ []

-- What a token at a place ends: a section's word what is left over in front of it, and a `;` in a section a declaration.
abbrev pub ended_at : Option SectionWord → Bool → Option SectionWord → ℕ → ℕ → List Declaration
ended_at (Some word) ends section start at = left_over section start at
ended_at None true (Some s) start at = record { section = Some s; start = start; end = at; is_ended = true } ∷ []
ended_at None true None start at = []
ended_at None false section start at = []

-- the section behind that token, and where the next declaration begins
abbrev pub section_past : Option SectionWord → Option SectionWord → Option SectionWord
section_past (Some word) section = Some word
section_past None section = section

abbrev pub start_past : Option SectionWord → Bool → Option SectionWord → ℕ → ℕ → ℕ
start_past (Some word) ends section start at = at + 1
start_past None true (Some s) start at = at + 1
start_past None true None start at = start
start_past None false section start at = start

-- The declarations of a section whose tokens begin at a place: one for each `;`, and maybe one behind the last.
abbrev pub of_pieces : SectionWord → ℕ → List (List Token) → List Token → List Declaration
of_pieces s at [] left = left_over (Some s) at (at + length left)
of_pieces s at (piece ∷ pieces) left =
    record { section = Some s; start = at; end = at + length piece; is_ended = true } ∷ of_pieces s (at + length piece + 1) pieces left

-- the declarations of a section, or of the tokens in front of the first one
abbrev pub of_part : Option SectionWord → ℕ → List Token → List Declaration
of_part None at tokens = left_over None at (at + length tokens)
of_part (Some s) at tokens = of_pieces s at (pieces_of tokens).ended (pieces_of tokens).left

-- the declarations of sections, the first of which begins with its word at a place
abbrev pub of_sections : ℕ → List SectionTokens → List Declaration
of_sections at [] = []
of_sections at (part ∷ parts) = of_part (Some part.section) (at + 1) part.tokens ++ of_sections (at + 1 + length part.tokens) parts

-- the declarations of a list of tokens; the number of one is its place here, counted from 1
abbrev pub declarations_of : List Token → List Declaration
declarations_of tokens = of_part None 0 (parts_of tokens).front ++ of_sections (length (parts_of tokens).front) (parts_of tokens).sections

-- the declaration's tokens are tokens of a list of that length
pub record IsWithin (end : ℕ) (declaration : Declaration) : Type 0 where
  pub ordered : declaration.start ≤ declaration.end
  pub within : declaration.end ≤ end
