-- Stretches of a text, and words, without where they lie in memory.
use Rattle.std.specs.Prelude.{◌≡◌, ℕ, List, [], ◌∷◌}
use Rattle.mcrl2_lexer.specs.declared.kind.Kind.{Kind}
use Rattle.mcrl2_lexer.specs.declared.token.Token.{Token}
use Rattle.mcrl2_syntax.specs.declared.word.Span.{Span}
use Rattle.mcrl2_syntax.specs.declared.word.Word as rust

-- an identifier or a numeral
pub record PlainWord : Type 0 where
  pub span : Span
  pub bytes : List ℕ

abbrev pub word_of : rust.Word → PlainWord
word_of w = record { span = w.span; bytes = w.bytes.items }

-- from the first byte of one token to the last byte of another
abbrev pub span_of : Token → Token → Span
span_of first last = record { start = first.start; end = last.end }

-- from the first byte of one stretch to the last byte of another
abbrev pub joined : Span → Span → Span
joined first last = record { start = first.start; end = last.end }

-- the tokens begin with one of the kind
abbrev pub Begins : Kind → List Token → Type 0
Begins kind [] = ⊥
Begins kind (token ∷ tokens) = token.kind ≡ kind

-- where the last of some parts stands
abbrev pub last_of : {Part : Type 0} → (Part → Span) → Span → List Part → Span
last_of where_is here [] = here
last_of where_is here (part ∷ parts) = last_of where_is (where_is part) parts

-- from the first byte of the first part to the last byte of the last one
abbrev pub spanned : {Part : Type 0} → (Part → Span) → List Part → Span
spanned where_is [] = record { start = 0; end = 0 }
spanned where_is (part ∷ parts) = joined (where_is part) (last_of where_is (where_is part) parts)

abbrev pub word_span : PlainWord → Span
word_span w = w.span
