-- Texts whose tokens a reader may go through.
use Rattle.std.specs.Prelude.{ℕ, ◌≤◌, List}
use Rattle.mcrl2_lexer.specs.declared.token.Token.{Token}
use Rattle.mcrl2_lexer.specs.declared.token.LexFault.{LexFault}
use Rattle.mcrl2_lexer.specs.declared.token.LexFault.TheVariants as lex_fault
use Rattle.mcrl2_lexer.specs.Lexing.{HasTokens}
use Rattle.mcrl2_parser.specs.declared.words.Fault.{Fault}
use Rattle.mcrl2_parser.specs.declared.words.Fault.TheVariants.{Syntax, NoMemory}
use Rattle.mcrl2_parser.specs.Levels.{level_of}

-- the bytes of the text are these tokens, and their level is 1,000 at most
pub record IsReadable (text : List ℕ) (tokens : List Token) : Type 0 where
  pub has_tokens : HasTokens text tokens
  pub level : level_of tokens ≤ 1000

-- a text that has no tokens can't be read
abbrev pub of_lexing : LexFault → Fault
of_lexing lex_fault.NoMemory = NoMemory
of_lexing _ = Syntax
