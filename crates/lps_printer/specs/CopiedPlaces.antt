-- Bytes that go on by copied tokens.
use Rattle.std.specs.Prelude.{◌≡◌, ℕ, List, [], ◌∷◌, ◌++◌}
use Rattle.mcrl2_lexer.specs.declared.kind.Kind.{Kind}
use Rattle.lps_printer.specs.declared.copied_tokens.CopiedText.{CopiedText}
use Rattle.lps_printer.specs.declared.copied_tokens.Place.{Place}
use Rattle.lps_printer.specs.declared.copied_tokens.Place.TheVariants.{First, Further, Behind}
use Rattle.lps_printer.specs.Pieces.{Piece, bytes_of}
use Rattle.lps_printer.specs.CopiedTokens.{Copied, gap_between}

-- the white space in front of a token
abbrev pub gap_at : Place → Kind → List ℕ
gap_at First kind = 32 ∷ []
gap_at Further kind = 10 ∷ 32 ∷ 32 ∷ []
gap_at (Behind last) kind = gap_between last kind

-- tokens in the layout, the first one at this place
abbrev pub copied_at : Place → List Copied → List Piece
copied_at place [] = []
copied_at place (t ∷ ts) = record { gap = gap_at place t.kind; kind = t.kind; bytes = t.bytes } ∷ copied_at (Behind t.kind) ts

-- The new bytes are the old ones and those of tokens, which stand in front: so it is whatever tokens come behind.
pub record AddsTokens (old : List ℕ) (place : Place) (new : List ℕ) (next : Place) (in_front : List Copied → List Copied) : Type 0 where
  pub bytes : (rest : List Copied) (end : List ℕ) → old ++ bytes_of (copied_at place (in_front rest)) end ≡ new ++ bytes_of (copied_at next rest) end

-- the text goes on by tokens
abbrev pub AddsCopied : CopiedText → CopiedText → (List Copied → List Copied) → Type 0
AddsCopied old new in_front = AddsTokens old.bytes.items old.place new.bytes.items new.place in_front
