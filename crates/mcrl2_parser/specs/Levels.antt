-- How deep the tokens of a declaration nest.
use Rattle.std.specs.Prelude.{ℕ, ◌+◌, max, List, [], ◌∷◌, sum}
use Rattle.mcrl2_lexer.specs.declared.kind.Kind.{Kind}
use Rattle.mcrl2_lexer.specs.declared.kind.Kind.TheVariants.{LeftParen, RightParen, LeftBracket, RightBracket, LeftBrace, RightBrace, Comma, Hash, Exclamation, Plus, Minus, Star, BarBar, LeftMerge, AndAnd, Implies, EqualsEquals, NotEquals, Less, LessEquals, Greater, GreaterEquals, Prepend, Append, Concat, Arrow, Else, Div, Mod, In, Sum}
use Rattle.mcrl2_lexer.specs.declared.token.Token.{Token}
use Rattle.mcrl2_parser.specs.declared.levels.Effect.{Effect}
use Rattle.mcrl2_parser.specs.declared.levels.Effect.TheVariants.{Opens, Closes, Counts, Stops, Stays}

-- which signs open a bracket, close one, count, and stop what counts
abbrev pub effect_of : Kind → Effect
effect_of LeftParen = Opens
effect_of LeftBracket = Opens
effect_of LeftBrace = Opens
effect_of RightParen = Closes
effect_of RightBracket = Closes
effect_of RightBrace = Closes
effect_of Exclamation = Counts
effect_of Hash = Counts
effect_of Minus = Counts
effect_of Implies = Counts
effect_of Prepend = Counts
effect_of Append = Counts
effect_of Concat = Counts
effect_of Star = Counts
effect_of Div = Counts
effect_of Mod = Counts
effect_of In = Counts
effect_of EqualsEquals = Counts
effect_of NotEquals = Counts
effect_of Less = Counts
effect_of LessEquals = Counts
effect_of Greater = Counts
effect_of GreaterEquals = Counts
effect_of Arrow = Counts
effect_of Else = Counts
effect_of Sum = Counts
effect_of LeftMerge = Counts
effect_of Comma = Stops
effect_of Plus = Stops
effect_of BarBar = Stops
effect_of AndAnd = Stops
effect_of _ = Stays

-- What counts at a token: in the innermost open bracket, itself included, and in each place around it, the nearest first.
-- The last place is the outside. Where no bracket is open, the innermost place is the outside.
pub record Count : Type 0 where
  pub inner : ℕ
  pub outer : List ℕ

abbrev pub counts : ℕ → List ℕ → Count
counts inner outer = record { inner = inner; outer = outer }

-- what counts behind a token, from what counts in front of it
abbrev pub after : Effect → ℕ → List ℕ → Count
-- a bracket counts one from its own token on, and nothing else counts in it yet
after Opens inner outer = counts 1 (inner ∷ outer)
-- a closing bracket closes the innermost open one, with all that counts in it
after Closes inner (around ∷ outer) = counts around outer
-- it does nothing where none is open
after Closes inner [] = counts inner []
-- a sign counts one in the innermost open bracket, or outside
after Counts inner outer = counts (inner + 1) outer
-- a sign stops all signs that count there, and the bracket itself goes on to count
after Stops inner (around ∷ outer) = counts 1 (around ∷ outer)
after Stops inner [] = counts 0 []
after Stays inner outer = counts inner outer

-- the level: all that counts
abbrev pub total : Count → ℕ
total c = c.inner + sum c.outer

-- the greatest level at one of the tokens, in front of which that much counts
abbrev pub level_from : Count → List Token → ℕ
level_from c [] = 0
level_from c (token ∷ tokens) = let next = after (effect_of token.kind) c.inner c.outer in max (total next) (level_from next tokens)

-- the level of a declaration's tokens: in front of them nothing counts
abbrev pub level_of : List Token → ℕ
level_of tokens = level_from (counts 0 []) tokens
