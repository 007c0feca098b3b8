-- What can't follow an expression, a list of them, an action or a process term that was read to its end.
use Rattle.std.specs.Prelude.{◌≡◌, ◌≢◌, ◌⊎◌, ◌<◌, ℕ, Bool, true, List, [], ◌∷◌}
use Rattle.mcrl2_lexer.specs.declared.kind.Kind.TheVariants.{LeftParen, Comma, Plus, BarBar, LeftMerge, Bar, Dot, Arrow, Else}
use Rattle.mcrl2_lexer.specs.declared.token.Token.{Token}
use Rattle.mcrl2_syntax.specs.Words.{Begins}
use Rattle.mcrl2_syntax.specs.InfixSigns.{height}

-- What an expression of a level can't go on with: a sign of its levels, or a bracket behind a name.
abbrev pub Stops : ℕ → List Token → Type 0
Stops k [] = Unit {0}
Stops k (t ∷ ts) = (t.kind ≢ LeftParen) × ((height t.kind ≡ 0) ⊎ (k < height t.kind))

-- What a list of expressions can't go on with.
pub record Closed (r : List Token) : Type 0 where
  pub stops : Stops 11 r
  pub comma : Begins Comma r → ⊥

-- What a list of actions can't go on with.
pub record NoAction (r : List Token) : Type 0 where
  pub paren : Begins LeftParen r → ⊥
  pub bar : Begins Bar r → ⊥

-- What no operand can go on with.
pub record Follows (r : List Token) : Type 0 where
  pub dot : Begins Dot r → ⊥
  pub arrow : Begins Arrow r → ⊥
  pub paren : Begins LeftParen r → ⊥
  pub bar : Begins Bar r → ⊥

-- What an operand that ends so can't go on with.
pub record Stays (s o : Bool) (r : List Token) : Type 0 where
  pub sum_ends : s ≡ true → Begins BarBar r → ⊥
  pub left_ends : s ≡ true → Begins LeftMerge r → ⊥
  pub open_ends : o ≡ true → Begins Else r → ⊥

-- What no whole term can go on with.
pub record Ends (r : List Token) : Type 0 where
  pub follows : Follows r
  pub plus : Begins Plus r → ⊥
  pub parallel : Begins BarBar r → ⊥
  pub left : Begins LeftMerge r → ⊥
  pub else : Begins Else r → ⊥
