-- Which tokens spell which data expression.
use Rattle.std.specs.Prelude.{◌≡◌, ℕ, zero, suc, List, [], ◌∷◌, Some}
use Rattle.mcrl2_lexer.specs.declared.kind.Kind.TheVariants.{Identifier, Numeral, TrueWord, FalseWord, LeftParen, RightParen, LeftBracket, RightBracket, Comma}
use Rattle.mcrl2_lexer.specs.declared.token.Token.{Token}
use Rattle.mcrl2_syntax.specs.declared.data_tree.PrefixSign.{PrefixSign}
use Rattle.mcrl2_syntax.specs.declared.data_tree.InfixSign.{InfixSign}
use Rattle.mcrl2_syntax.specs.Words.{span_of, joined}
use Rattle.mcrl2_syntax.specs.DataTrees.{PlainData, Operand, named, numeral, true_data, false_data, listed, applied, brackets, prefix, no_datas, datas_of, data_span}
use Rattle.mcrl2_syntax.specs.InfixSigns.{prefix_of, infix_of, level_of, grouped}
use Rattle.mcrl2_syntax.specs.SpelledWords.{token_word}

mutual
  -- an expression without infix signs outside brackets
  pub data SpellsUnit (text : List ℕ) : PlainData → List Token → List Token → Type 0 where
    unit_name : {t : Token} {r : List Token} → t.kind ≡ Identifier → SpellsUnit text (named (token_word text t)) (t ∷ r) r
    unit_numeral : {t : Token} {r : List Token} → t.kind ≡ Numeral → SpellsUnit text (numeral (token_word text t)) (t ∷ r) r
    unit_true : {t : Token} {r : List Token} → t.kind ≡ TrueWord → SpellsUnit text (true_data (span_of t t)) (t ∷ r) r
    unit_false : {t : Token} {r : List Token} → t.kind ≡ FalseWord → SpellsUnit text (false_data (span_of t t)) (t ∷ r) r
    unit_empty : {t v : Token} {r : List Token} → t.kind ≡ LeftBracket → v.kind ≡ RightBracket → SpellsUnit text (listed (span_of t v) no_datas) (t ∷ v ∷ r) r
    unit_list : {t v : Token} {ds : List PlainData} {ts r : List Token} → t.kind ≡ LeftBracket → SpellsItems text ds ts (v ∷ r) → v.kind ≡ RightBracket
        → SpellsUnit text (listed (span_of t v) (datas_of ds)) (t ∷ ts) r
    unit_apply : {t u v : Token} {ds : List PlainData} {ts r : List Token} → t.kind ≡ Identifier → u.kind ≡ LeftParen → SpellsItems text ds ts (v ∷ r) → v.kind ≡ RightParen
        → SpellsUnit text (applied (span_of t v) (token_word text t) (datas_of ds)) (t ∷ u ∷ ts) r
    unit_brackets : {t v : Token} {d : PlainData} {ts r : List Token} → t.kind ≡ LeftParen → SpellsLevel text 11 d ts (v ∷ r) → v.kind ≡ RightParen
        → SpellsUnit text (brackets (span_of t v) d) (t ∷ ts) r
    unit_prefix : {t : Token} {sign : PrefixSign} {d : PlainData} {ts r : List Token} → prefix_of t.kind ≡ Some sign → SpellsUnit text d ts r
        → SpellsUnit text (prefix (joined (span_of t t) (data_span d)) sign d) (t ∷ ts) r

  -- expressions with commas between them
  pub data SpellsItems (text : List ℕ) : List PlainData → List Token → List Token → Type 0 where
    items_last : {d : PlainData} {ts r : List Token} → SpellsLevel text 11 d ts r → SpellsItems text (d ∷ []) ts r
    items_more : {d : PlainData} {ds : List PlainData} {v : Token} {ts us r : List Token} → SpellsLevel text 11 d ts (v ∷ us) → v.kind ≡ Comma
        → SpellsItems text ds us r → SpellsItems text (d ∷ ds) ts r

  -- an expression whose signs outside brackets stand at this level at most: at level 0 there are none
  pub data SpellsLevel (text : List ℕ) : ℕ → PlainData → List Token → List Token → Type 0 where
    level_unit : {d : PlainData} {ts r : List Token} → SpellsUnit text d ts r → SpellsLevel text zero d ts r
    level_chain : {k : ℕ} {d : PlainData} {os : List Operand} {ts us r : List Token} → SpellsLevel text k d ts us → SpellsTail text k os us r
        → SpellsLevel text (suc k) (grouped (suc k) d os) ts r

  -- the further operands of the level above this one, each behind a sign of it
  pub data SpellsTail (text : List ℕ) : ℕ → List Operand → List Token → List Token → Type 0 where
    tail_end : {k : ℕ} {r : List Token} → SpellsTail text k [] r r
    tail_more : {k : ℕ} {sign : InfixSign} {d : PlainData} {os : List Operand} {t : Token} {ts us r : List Token} → infix_of t.kind ≡ Some sign → level_of sign ≡ suc k
        → SpellsLevel text k d ts us → SpellsTail text k os us r → SpellsTail text k ((sign, d) ∷ os) (t ∷ ts) r

-- a data expression
abbrev pub SpellsData : List ℕ → PlainData → List Token → List Token → Type 0
SpellsData text = SpellsLevel text 11

-- the tokens spell no two data expressions
abbrev pub DataAreSingle : Type 0
DataAreSingle = (text : List ℕ) (one other : PlainData) (tokens : List Token) → SpellsData text one tokens [] → SpellsData text other tokens [] → one ≡ other
