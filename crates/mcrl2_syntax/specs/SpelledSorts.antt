-- Which tokens spell which sort expression.
use Rattle.std.specs.Prelude.{◌≡◌, ℕ, List, ◌∷◌}
use Rattle.mcrl2_lexer.specs.declared.kind.Kind.TheVariants.{BoolWord, PosWord, NatWord, IntWord, ListWord, Identifier, LeftParen, RightParen}
use Rattle.mcrl2_lexer.specs.declared.token.Token.{Token}
use Rattle.mcrl2_syntax.specs.Words.{span_of}
use Rattle.mcrl2_syntax.specs.SortTrees.{PlainSort, bool_sort, pos_sort, nat_sort, int_sort, list_sort, named_sort, brackets_sort}
use Rattle.mcrl2_syntax.specs.SpelledWords.{token_word}

-- A front of the tokens spells the sort expression, and the rest stands behind it.
pub data SpellsSort (text : List ℕ) : PlainSort → List Token → List Token → Type 0 where
  spells_bool : {t : Token} {r : List Token} → t.kind ≡ BoolWord → SpellsSort text (bool_sort (span_of t t)) (t ∷ r) r
  spells_pos : {t : Token} {r : List Token} → t.kind ≡ PosWord → SpellsSort text (pos_sort (span_of t t)) (t ∷ r) r
  spells_nat : {t : Token} {r : List Token} → t.kind ≡ NatWord → SpellsSort text (nat_sort (span_of t t)) (t ∷ r) r
  spells_int : {t : Token} {r : List Token} → t.kind ≡ IntWord → SpellsSort text (int_sort (span_of t t)) (t ∷ r) r
  spells_list : {t u v : Token} {s : PlainSort} {ts r : List Token} → t.kind ≡ ListWord → u.kind ≡ LeftParen
      → SpellsSort text s ts (v ∷ r) → v.kind ≡ RightParen → SpellsSort text (list_sort (span_of t v) s) (t ∷ u ∷ ts) r
  spells_named_sort : {t : Token} {r : List Token} → t.kind ≡ Identifier → SpellsSort text (named_sort (token_word text t)) (t ∷ r) r
  spells_brackets_sort : {t v : Token} {s : PlainSort} {ts r : List Token} → t.kind ≡ LeftParen
      → SpellsSort text s ts (v ∷ r) → v.kind ≡ RightParen → SpellsSort text (brackets_sort (span_of t v) s) (t ∷ ts) r

-- the tokens spell no two sort expressions, and end at one place
abbrev pub SortsAreSingle : Type 0
SortsAreSingle = (text : List ℕ) (one other : PlainSort) (tokens rest others : List Token) → SpellsSort text one tokens rest → SpellsSort text other tokens others
    → (one ≡ other) × (rest ≡ others)
