-- What callers see of a text that is cut into tokens.
use Rattle.std.specs.Prelude.{ℕ, List}
use Rattle.mcrl2_lexer.specs.declared.token.Token.{Token}

pub record Lexed : Type 0 where
  pub text : List ℕ
  pub list : List Token
