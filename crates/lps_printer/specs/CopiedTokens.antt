-- The layout of copied tokens.
use Rattle.std.specs.Prelude.{◌≡◌, ◌<◌, ◌^◌, ℕ, Bool, true, false, List, [], ◌∷◌, ◌&&◌, ◌||◌, if◌then◌else◌}
use Rattle.mcrl2_lexer.specs.declared.kind.Kind.{Kind}
use Rattle.mcrl2_lexer.specs.declared.kind.Kind.TheVariants.{Identifier, Numeral, ListWord, LeftParen, RightParen, LeftBracket, RightBracket, Comma, Semicolon, Colon, Question}
use Rattle.mcrl2_lexer.specs.Words.{is_left_out, decimal}
use Rattle.mcrl2_lexer.specs.Tokens.{IsToken}
use Rattle.lps_printer.specs.Pieces.{Piece, LexBack, bytes_of}

-- a token without its place
pub record Copied : Type 0 where
  pub kind : Kind
  pub bytes : List ℕ

-- no space stands before these
abbrev pub is_tight : Kind → Bool
is_tight Comma = true
is_tight Semicolon = true
is_tight Colon = true
is_tight RightParen = true
is_tight RightBracket = true
is_tight Question = true
is_tight _ = false

-- none stands after these
abbrev pub is_opening : Kind → Bool
is_opening LeftParen = true
is_opening LeftBracket = true
is_opening Question = true
is_opening _ = false

-- nor between these and a bracket
abbrev pub is_callable : Kind → Bool
is_callable Identifier = true
is_callable ListWord = true
is_callable _ = false

abbrev pub is_paren : Kind → Bool
is_paren LeftParen = true
is_paren _ = false

abbrev pub no_space : Kind → Kind → Bool
no_space a b = is_tight b || (is_opening a || (is_callable a && is_paren b))

abbrev pub gap_between : Kind → Kind → List ℕ
gap_between a b = if no_space a b then [] else 32 ∷ []

abbrev pub copied_behind : Kind → List Copied → List Piece
copied_behind a [] = []
copied_behind a (t ∷ ts) = record { gap = gap_between a t.kind; kind = t.kind; bytes = t.bytes } ∷ copied_behind t.kind ts

-- the first token behind a gap, the others in the layout
abbrev pub copied : List ℕ → List Copied → List Piece
copied gap [] = []
copied gap (t ∷ ts) = record { gap = gap; kind = t.kind; bytes = t.bytes } ∷ copied_behind t.kind ts

pub record IsCopied (t : Copied) : Type 0 where
  pub token : IsToken t.bytes t.kind
  pub kept : is_left_out t.kind ≡ false
  pub fits : t.kind ≡ Numeral → decimal t.bytes < 2 ^ 128

abbrev pub AreCopied : List Copied → Type 0
AreCopied [] = Unit {0}
AreCopied (t ∷ ts) = IsCopied t × AreCopied ts

-- accepted tokens in the layout of copied declarations lex back
abbrev pub CopiesLex : Type 0
CopiesLex = (ts : List Copied) → AreCopied ts → LexBack (copied [] ts) (bytes_of (copied [] ts) (10 ∷ []))
