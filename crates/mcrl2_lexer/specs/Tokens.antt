-- Which bytes are a token or a comment, and which of them stand at the front of a text.
use Rattle.std.specs.Prelude.{◌≡◌, ◌≢◌, ◌<◌, ◌≤◌, ◌^◌, ◌-◌, ℕ, true, false, List, ◌∷◌, Some, length, take, drop, All, codes, slice_index}
use Rattle.mcrl2_lexer.specs.declared.kind.Kind.{Kind}
use Rattle.mcrl2_lexer.specs.declared.kind.Kind.TheVariants.{Numeral}
use Rattle.mcrl2_lexer.specs.declared.token.Token.{Token}
use Rattle.mcrl2_lexer.specs.Words.{word_kind, sign_kind, is_letter, is_digit, is_name_byte, is_left_out, decimal}

abbrev pub AreNameBytes : List ℕ → Type 0
AreNameBytes = All (λ b. is_name_byte b ≡ true)

abbrev pub AreDigits : List ℕ → Type 0
AreDigits = All (λ b. is_digit b ≡ true)

-- The bytes are a token of that kind. A numeral of several digits does not begin with 0, whose code is 48.
pub data IsToken : List ℕ → Kind → Type 0 where
  name_or_word : {first : ℕ} {others : List ℕ} → is_letter first ≡ true → AreNameBytes others → IsToken (first ∷ others) (word_kind (first ∷ others))
  zero_numeral : IsToken (codes "0") Numeral
  numeral : {first : ℕ} {others : List ℕ} → first ≢ 48 → is_digit first ≡ true → AreDigits others → IsToken (first ∷ others) Numeral
  sign : {bytes : List ℕ} {kind : Kind} → sign_kind bytes ≡ Some kind → IsToken bytes kind

-- the first n bytes are a token of that kind, and no longer front of the text is a token
pub record TokenAt (text : List ℕ) (n : ℕ) (kind : Kind) : Type 0 where
  pub some : 0 < n
  pub within : n ≤ length text
  pub token : IsToken (take n text) kind
  pub longest : (m : ℕ) (other : Kind) → m ≤ length text → IsToken (take m text) other → m ≤ n

-- no front of the text is a token
abbrev pub BeginsNoToken : List ℕ → Type 0
BeginsNoToken text = (n : ℕ) (kind : Kind) → IsToken (take n text) kind → ⊥

-- a comment begins with % and has no line feed
pub data IsComment : List ℕ → Type 0 where
  percent : {others : List ℕ} → All (λ b. b ≢ 10) others → IsComment (37 ∷ others)

-- the first n bytes are a comment, and a line feed or the end of the text stands behind it
pub record CommentAt (text : List ℕ) (n : ℕ) : Type 0 where
  pub some : 0 < n
  pub within : n ≤ length text
  pub comment : IsComment (take n text)
  pub ends : n < length text → slice_index text n ≡ 10

-- the bytes of a token
abbrev pub slice_of : List ℕ → Token → List ℕ
slice_of text token = take (token.end - token.start) (drop token.start text)

-- the token is none that is left out, and no numeral above 2^128 - 1
pub record IsAccepted (text : List ℕ) (token : Token) : Type 0 where
  pub kept : is_left_out token.kind ≡ false
  pub fits : token.kind ≡ Numeral → decimal (slice_of text token) < 2 ^ 128
