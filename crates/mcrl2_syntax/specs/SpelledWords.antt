-- Which tokens spell a word, and lists with a separator. Each relation says what a front of the tokens spells, and which
-- tokens stand behind that front.
use Rattle.std.specs.Prelude.{◌≡◌, ℕ, List, [], ◌∷◌}
use Rattle.mcrl2_lexer.specs.declared.kind.Kind.{Kind}
use Rattle.mcrl2_lexer.specs.declared.kind.Kind.TheVariants.{Identifier, Comma, LeftBrace, RightBrace}
use Rattle.mcrl2_lexer.specs.declared.token.Token.{Token}
use Rattle.mcrl2_lexer.specs.Tokens.{slice_of}
use Rattle.mcrl2_syntax.specs.Words.{PlainWord, span_of}

-- the word that a token is
abbrev pub token_word : List ℕ → Token → PlainWord
token_word text token = record { span = span_of token token; bytes = slice_of text token }

-- an identifier
pub data SpellsName (text : List ℕ) : PlainWord → List Token → List Token → Type 0 where
  a_name : {t : Token} {r : List Token} → t.kind ≡ Identifier → SpellsName text (token_word text t) (t ∷ r) r

-- one item or more, with a separator between them
pub data SpellsList {Item : Type 0} (spells : Item → List Token → List Token → Type 0) (separator : Kind) : List Item → List Token → List Token → Type 0 where
  last_item : {item : Item} {ts r : List Token} → spells item ts r → SpellsList spells separator (item ∷ []) ts r
  more_items : {item : Item} {items : List Item} {sign : Token} {ts us r : List Token} → spells item ts (sign ∷ us) → sign.kind ≡ separator
      → SpellsList spells separator items us r → SpellsList spells separator (item ∷ items) ts r

-- items in braces, with commas between them
pub data SpellsBraces {Item : Type 0} (spells : Item → List Token → List Token → Type 0) : List Item → List Token → List Token → Type 0 where
  no_items : {t v : Token} {r : List Token} → t.kind ≡ LeftBrace → v.kind ≡ RightBrace → SpellsBraces spells [] (t ∷ v ∷ r) r
  some_items : {items : List Item} {t v : Token} {ts r : List Token} → t.kind ≡ LeftBrace → SpellsList spells Comma items ts (v ∷ r) → v.kind ≡ RightBrace
      → SpellsBraces spells items (t ∷ ts) r
