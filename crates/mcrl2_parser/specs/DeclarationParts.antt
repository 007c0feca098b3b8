-- What stands in front of the other parts of a declaration.
use Rattle.std.specs.Prelude.{◌≡◌, ℕ, List, [], ◌∷◌}
use Rattle.mcrl2_lexer.specs.declared.kind.Kind.{Kind}
use Rattle.mcrl2_lexer.specs.declared.kind.Kind.TheVariants.{Identifier, LeftParen, RightParen}
use Rattle.mcrl2_lexer.specs.declared.token.Token.{Token}
use Rattle.mcrl2_syntax.specs.ProcessParts.{PlainVarGroup}
use Rattle.mcrl2_syntax.specs.SpelledLabels.{SpellsVars}

-- The tokens begin with that name and a sign of that kind, and the rest stands behind the sign.
pub record BeginsNamed (kind : Kind) (name : Token) (tokens rest : List Token) : Type 0 where
  pub sign : Token
  pub is : tokens ≡ name ∷ sign ∷ rest
  pub identifier : name.kind ≡ Identifier
  pub is_kind : sign.kind ≡ kind

-- the parameters of a process in their brackets, or nothing
pub data SpellsParameters (text : List ℕ) : List PlainVarGroup → List Token → List Token → Type 0 where
  no_parameters : {r : List Token} → SpellsParameters text [] r r
  some_parameters : {u v : Token} {parameters : List PlainVarGroup} {ts r : List Token} → u.kind ≡ LeftParen → SpellsVars text parameters ts (v ∷ r) → v.kind ≡ RightParen
      → SpellsParameters text parameters (u ∷ ts) r
