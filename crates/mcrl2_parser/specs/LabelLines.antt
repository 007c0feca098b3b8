-- Lines that are labels.
use Rattle.std.specs.Prelude.{ℕ, ◌≤◌, List, []}
use Rattle.mcrl2_lexer.specs.declared.token.Token.{Token}
use Rattle.mcrl2_lexer.specs.Lexing.{HasTokens}
use Rattle.mcrl2_syntax.specs.ProcessParts.{PlainLabel}
use Rattle.mcrl2_syntax.specs.SpelledLabels.{SpellsLabel}
use Rattle.mcrl2_parser.specs.declared.words.Fault.{Fault}
use Rattle.mcrl2_parser.specs.declared.words.Fault.TheVariants as fault
use Rattle.mcrl2_parser.specs.declared.label_line.LabelFault.{LabelFault}
use Rattle.mcrl2_parser.specs.declared.label_line.LabelFault.TheVariants.{NotALabel, NoMemory}
use Rattle.mcrl2_parser.specs.Levels.{level_of}

-- the bytes of the line are tokens of level 1,000 at most, and all of them together spell the label
pub record IsLabelLine (line : List ℕ) (label : PlainLabel) : Type 0 where
  pub tokens : List Token
  pub has_tokens : HasTokens line tokens
  pub level : level_of tokens ≤ 1000
  pub spelled : SpellsLabel line label tokens []

-- a line whose tokens spell none is no label
abbrev pub of_reading : Fault → LabelFault
of_reading fault.NoMemory = NoMemory
of_reading fault.Syntax = NotALabel
