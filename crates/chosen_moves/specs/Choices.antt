-- What the lines of a text choose.
use Rattle.std.specs.Prelude.{◌≡◌, ℕ, suc, Bool, true, false, List, [], ◌∷◌, ◌++◌, Option, Some, None}
use Rattle.mcrl2_lexer.specs.declared.kind.Kind.TheVariants.{Numeral}
use Rattle.mcrl2_lexer.specs.declared.token.Token.{Token}
use Rattle.mcrl2_lexer.specs.Lexing.{HasTokens}
use Rattle.mcrl2_lexer.specs.Tokens.{slice_of}
use Rattle.mcrl2_lexer.specs.Words.{decimal}
use Rattle.trace_replay.specs.BlankLines.{IsBlank}
use Rattle.chosen_moves.specs.declared.choices.Choice.{Choice}
use Rattle.chosen_moves.specs.declared.saying.Said.{Said}
use Rattle.chosen_moves.specs.declared.saying.Said.TheVariants.{Nothing, Number, Other}

-- ---- lines
-- the line has a numeral and no other token, and this is its number
pub record IsNumber (line : List ℕ) (number : ℕ) : Type 0 where
  pub token : Token
  pub alone : HasTokens line (token ∷ [])
  pub numeral : token.kind ≡ Numeral
  pub value : decimal (slice_of line token) ≡ number

-- it is neither blank nor a number
pub record IsOther (line : List ℕ) : Type 0 where
  pub not_blank : ¬ (IsBlank line)
  pub no_number : (number : ℕ) → ¬ (IsNumber line number)

-- ---- texts
-- Lines with the numbers that they choose, counted from a number on. A blank line is counted and chooses nothing. They are read up to the first line that is neither blank nor a
-- number, whose number is told where there is one.
pub data HaveChoices : ℕ → List (List ℕ) → List Choice → Option ℕ → Type 0 where
  no_more_lines : {k : ℕ} → HaveChoices k [] [] None
  other_line : {k : ℕ} {line : List ℕ} {lines : List (List ℕ)} → IsOther line → HaveChoices k (line ∷ lines) [] (Some k)
  blank_line : {k : ℕ} {line : List ℕ} {lines : List (List ℕ)} {cs : List Choice} {bad : Option ℕ} → IsBlank line → HaveChoices (suc k) lines cs bad → HaveChoices k (line ∷ lines) cs bad
  number_line : {k number : ℕ} {line : List ℕ} {lines : List (List ℕ)} {cs : List Choice} {bad : Option ℕ} → IsNumber line number → HaveChoices (suc k) lines cs bad
      → HaveChoices k (line ∷ lines) (record { line = k; number = number } ∷ cs) bad

-- ---- in code
abbrev pub Says : List ℕ → Said → Type 0
Says line Nothing = IsBlank line
Says line (Number number) = IsNumber line number
Says line Other = IsOther line

-- what a line chooses is put behind other choices, and it is told whether it is no other line
pub data IsReadLine (line : List ℕ) (k : ℕ) (old new : List Choice) (good : Bool) : Type 0 where
  nothing_chosen : IsBlank line → new ≡ old → good ≡ true → IsReadLine line k old new good
  one_chosen : (number : ℕ) → IsNumber line number → new ≡ old ++ record { line = k; number = number } ∷ [] → good ≡ true → IsReadLine line k old new good
  other_there : IsOther line → new ≡ old → good ≡ false → IsReadLine line k old new good
