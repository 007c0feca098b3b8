-- What a reader of lists asks of their parts, and the parts of an operator.
use Rattle.std.specs.Prelude.{◌≡◌, List, ◌∷◌}
use Rattle.mcrl2_lexer.specs.declared.kind.Kind.{Kind}
use Rattle.mcrl2_lexer.specs.declared.kind.Kind.TheVariants.{LeftParen, Comma}
use Rattle.mcrl2_lexer.specs.declared.token.Token.{Token}
use Rattle.mcrl2_syntax.specs.SpelledWords.{SpellsBraces}

-- a part may end in front of such a sign
abbrev pub StopsAt : (List Token → Type 0) → Kind → Type 0
StopsAt stops kind = (sign : Token) (r : List Token) → sign.kind ≡ kind → stops (sign ∷ r)

-- no part begins with such a sign
abbrev pub NeverBegins : {Part : Type 0} → (Part → List Token → List Token → Type 0) → Kind → Type 0
NeverBegins {Part = Part} spells kind = (part : Part) (sign : Token) (ts r : List Token) → spells part (sign ∷ ts) r → sign.kind ≡ kind → ⊥

-- a bracket that opens, parts in braces, and a comma
pub data SpellsOpened {Part : Type 0} (spells : Part → List Token → List Token → Type 0) : List Part → List Token → List Token → Type 0 where
  opened : {parts : List Part} {u c : Token} {ts r : List Token} → u.kind ≡ LeftParen → SpellsBraces spells parts ts (c ∷ r) → c.kind ≡ Comma → SpellsOpened spells parts (u ∷ ts) r
