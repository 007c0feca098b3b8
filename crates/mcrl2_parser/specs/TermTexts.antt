-- Texts that are data expressions, and lines that are tuples of them.
use Rattle.std.specs.Prelude.{◌≡◌, ℕ, ◌≤◌, List, [], ◌∷◌}
use Rattle.mcrl2_lexer.specs.declared.kind.Kind.TheVariants.{LeftParen, RightParen}
use Rattle.mcrl2_lexer.specs.declared.token.Token.{Token}
use Rattle.mcrl2_lexer.specs.Lexing.{HasTokens}
use Rattle.mcrl2_syntax.specs.DataTrees.{PlainData}
use Rattle.mcrl2_syntax.specs.SpelledData.{SpellsData, SpellsItems}
use Rattle.mcrl2_parser.specs.declared.words.Fault.{Fault}
use Rattle.mcrl2_parser.specs.declared.words.Fault.TheVariants as fault
use Rattle.mcrl2_parser.specs.declared.term_text.TermFault.{TermFault}
use Rattle.mcrl2_parser.specs.declared.term_text.TermFault.TheVariants.{NotATerm, NoMemory}
use Rattle.mcrl2_parser.specs.Levels.{level_of}

-- `()`, or data expressions in brackets with commas between them
pub data SpellsTuple (text : List ℕ) : List PlainData → List Token → List Token → Type 0 where
  tuple_empty : {t v : Token} {r : List Token} → t.kind ≡ LeftParen → v.kind ≡ RightParen → SpellsTuple text [] (t ∷ v ∷ r) r
  tuple_items : {t v : Token} {ds : List PlainData} {ts r : List Token} → t.kind ≡ LeftParen → SpellsItems text ds ts (v ∷ r) → v.kind ≡ RightParen
      → SpellsTuple text ds (t ∷ ts) r

-- the bytes of the text are tokens of level 1,000 at most, and all of them together spell the data expression
pub record IsDataText (text : List ℕ) (expression : PlainData) : Type 0 where
  pub tokens : List Token
  pub has_tokens : HasTokens text tokens
  pub level : level_of tokens ≤ 1000
  pub spelled : SpellsData text expression tokens []

-- the bytes of the line are tokens of level 1,000 at most, and all of them together spell the data expressions in brackets
pub record IsTupleLine (line : List ℕ) (datas : List PlainData) : Type 0 where
  pub tokens : List Token
  pub has_tokens : HasTokens line tokens
  pub level : level_of tokens ≤ 1000
  pub spelled : SpellsTuple line datas tokens []

-- a text whose tokens spell none is no data expression
abbrev pub of_reading : Fault → TermFault
of_reading fault.NoMemory = NoMemory
of_reading fault.Syntax = NotATerm
