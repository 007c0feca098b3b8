-- Lines without a label.
use Rattle.std.specs.Prelude.{ℕ, List, []}
use Rattle.mcrl2_lexer.specs.Lexing.{HasTokens}

-- the line has no tokens: white space and comments are all that stands in it
abbrev pub IsBlank : List ℕ → Type 0
IsBlank line = HasTokens line []
