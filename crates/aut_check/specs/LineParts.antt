-- Parts of a line in code.
use Rattle.std.specs.Prelude.{◌≡◌, ◌<◌, ◌||◌, ℕ, Bool, false, not, nat_eq, get_or, length, List, [], ◌∷◌, codes}
use Rattle.mcrl2_lexer.specs.Words.{is_space, is_digit}
use Rattle.aut_check.specs.declared.line_parts.ByteKind.{ByteKind}
use Rattle.aut_check.specs.declared.line_parts.ByteKind.TheVariants.{White, Digit, Plain}
use Rattle.aut_check.specs.declared.line_parts.Counts as declared
use Rattle.aut_check.specs.SystemTexts.{Counts, IsFirstPart, IsNumber, IsPlain, quoted}

-- whether a byte is of this kind
abbrev pub is_of : ByteKind → ℕ → Bool
is_of White b = is_space b
is_of Digit b = is_digit b
is_of Plain b = not (nat_eq b 34 || nat_eq b 37)

-- the first byte of a part isn't white space
abbrev pub BeginsWithoutWhite : List ℕ → Type 0
BeginsWithoutWhite [] = ⊥
BeginsWithoutWhite (b ∷ bs) = is_space b ≡ false

abbrev pub counts_of : declared.Counts → Counts
counts_of c = record { first = c.first; edges = c.edges; states = c.states }

-- at least one digit, and no further zero in front
abbrev pub IsNumeral : List ℕ → Type 0
IsNumeral digits = (0 < length digits) × (get_or digits 0 0 ≡ 48 → length digits ≡ 1)

-- the line begins with a number and this sign behind it
pub record IsNumberThen (line : List ℕ) (sign n : ℕ) (rest : List ℕ) : Type 0 where
  pub digits : List ℕ
  pub number : IsNumber digits n
  pub behind : List ℕ
  pub first : IsFirstPart line digits behind
  pub second : IsFirstPart behind (sign ∷ []) rest

-- the line begins with a label in quotation marks and a comma behind it
pub record IsLabelThen (line label rest : List ℕ) : Type 0 where
  pub plain : IsPlain label
  pub behind : List ℕ
  pub first : IsFirstPart line (quoted label) behind
  pub second : IsFirstPart behind (codes ",") rest
