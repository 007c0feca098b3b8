-- The tokens of a text, and where a text has none.
use Rattle.std.specs.Prelude.{◌≡◌, ◌≢◌, ◌<◌, ◌≤◌, ◌-◌, ◌^◌, ℕ, suc, true, false, List, [], ◌∷◌, length, drop, take, slice_index, All}
use Rattle.mcrl2_lexer.specs.declared.kind.Kind.{Kind}
use Rattle.mcrl2_lexer.specs.declared.kind.Kind.TheVariants.{Numeral}
use Rattle.mcrl2_lexer.specs.declared.token.Token.{Token}
use Rattle.mcrl2_lexer.specs.declared.token.LexFault.{LexFault}
use Rattle.mcrl2_lexer.specs.declared.token.LexFault.TheVariants.{BadByte, NumeralTooLarge, OutOfProfile, NoMemory}
use Rattle.mcrl2_lexer.specs.Words.{is_space, is_left_out, decimal}
use Rattle.mcrl2_lexer.specs.Tokens.{BeginsNoToken, TokenAt, CommentAt, IsAccepted}

-- From one place to another the text has these tokens, with white space and comments between them.
pub data Lexes (text : List ℕ) : ℕ → List Token → ℕ → Type 0 where
  nothing : {at : ℕ} → Lexes text at [] at
  after_space : {at to : ℕ} {tokens : List Token} → at < length text → is_space (slice_index text at) ≡ true → Lexes text (suc at) tokens to → Lexes text at tokens to
  after_comment : {at next to : ℕ} {tokens : List Token} → at < next → CommentAt (drop at text) (next - at) → Lexes text next tokens to → Lexes text at tokens to
  after_token : {at to : ℕ} {first : Token} {others : List Token} → first.start ≡ at → at < first.end → TokenAt (drop at text) (first.end - at) first.kind
      → Lexes text first.end others to → Lexes text at (first ∷ others) to

-- the whole text has these tokens, and all of them are accepted
pub record HasTokens (text : List ℕ) (tokens : List Token) : Type 0 where
  pub lexes : Lexes text 0 tokens (length text)
  pub accepted : All (IsAccepted text) tokens

-- Each token has a byte at least, and ends in front of the next one and within that many bytes.
abbrev pub SpansRise : ℕ → List Token → ℕ → Type 0
SpansRise from [] end = from ≤ end
SpansRise from (token ∷ tokens) end = (from ≤ token.start) × (token.start < token.end) × SpansRise token.end tokens end

-- the token has a byte at least, and ends within that many bytes
pub record IsInside (token : Token) (end : ℕ) : Type 0 where
  pub some : token.start < token.end
  pub within : token.end ≤ end

-- up to that place the text has tokens that are accepted
pub record AcceptedUpTo (text : List ℕ) (at : ℕ) : Type 0 where
  pub tokens : List Token
  pub lexes : Lexes text 0 tokens at
  pub accepted : All (IsAccepted text) tokens

-- a byte that is no white space and begins neither a comment nor a token
pub record IsBadByte (text : List ℕ) (at : ℕ) : Type 0 where
  pub within : at < length text
  pub no_space : is_space (slice_index text at) ≡ false
  pub no_comment : slice_index text at ≢ 37
  pub no_token : BeginsNoToken (drop at text)

-- the token at that place is a numeral above 2^128 - 1
pub record IsLargeNumeral (text : List ℕ) (at : ℕ) : Type 0 where
  pub size : ℕ
  pub numeral : TokenAt (drop at text) size Numeral
  pub large : 2 ^ 128 ≤ decimal (take size (drop at text))

-- the token at that place is one that is left out
pub record IsLeftOutToken (text : List ℕ) (at : ℕ) : Type 0 where
  pub size : ℕ
  pub kind : Kind
  pub token : TokenAt (drop at text) size kind
  pub left_out : is_left_out kind ≡ true

-- the fault is that of the token at that place, or that none begins there
abbrev pub IsFaultAt : List ℕ → ℕ → LexFault → Type 0
IsFaultAt text at (BadByte place) = (place ≡ at) × BeginsNoToken (drop at text)
IsFaultAt text at (NumeralTooLarge place) = (place ≡ at) × IsLargeNumeral text at
IsFaultAt text at (OutOfProfile place) = (place ≡ at) × IsLeftOutToken text at
IsFaultAt text at NoMemory = ⊥

-- the token begins at that place, is the longest one there, and is accepted
pub record IsNextToken (text : List ℕ) (at : ℕ) (token : Token) : Type 0 where
  pub start : token.start ≡ at
  pub some : at < token.end
  pub longest : TokenAt (drop at text) (token.end - at) token.kind
  pub accepted : IsAccepted text token

-- The text has the fault: tokens that are accepted up to a place, and there what the fault says. Want of memory is no
-- fault of the text.
abbrev pub HasFault : List ℕ → LexFault → Type 0
HasFault text (BadByte at) = AcceptedUpTo text at × IsBadByte text at
HasFault text (NumeralTooLarge at) = AcceptedUpTo text at × IsLargeNumeral text at
HasFault text (OutOfProfile at) = AcceptedUpTo text at × IsLeftOutToken text at
HasFault text NoMemory = ⊥
