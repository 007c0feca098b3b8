-- Texts that are data expressions, and lines that are tuples of them, as the code comes to them.
use Rattle.std.proofs.Common.{◌≡◌, ◌≢◌, ℕ, List, [], ◌∷◌, refl, subst}
use Rattle.mcrl2_lexer.specs.declared.kind.Kind.TheVariants.{LeftParen, RightParen}
use Rattle.mcrl2_lexer.specs.declared.token.Token.{Token}
use Rattle.mcrl2_lexer.specs.Lexing.{HasTokens}
use Rattle.mcrl2_syntax.specs.Words.{Begins}
use Rattle.mcrl2_syntax.specs.DataTrees.{PlainData}
use Rattle.mcrl2_syntax.specs.Follow.{Closed}
use Rattle.mcrl2_syntax.specs.SpelledData.{SpellsData, SpellsItems}
use Rattle.mcrl2_syntax.proofs.DataOnce.{items_paren, closed_paren}
use Rattle.mcrl2_parser.specs.declared.words.Fault.TheVariants as fault
use Rattle.mcrl2_parser.specs.declared.term_text.TermFault.TheVariants.{NotATerm, NoMemory}
use Rattle.mcrl2_parser.specs.ReadableTexts.{IsReadable}
use Rattle.mcrl2_parser.specs.TermTexts.{IsDataText, IsTupleLine, SpellsTuple, tuple_empty, tuple_items, of_reading}
use Rattle.mcrl2_parser.proofs.ReadableTexts.{read_whole, spelled_whole}

-- a fault of memory says nothing of the text
pub differs : of_reading fault.NoMemory ≢ NotATerm
differs e = let same : NoMemory ≡ NotATerm = e in cc

-- Texts that are data expressions.
module _ {text : List ℕ} {d : PlainData} where
  pub by_data : {found list rest : List Token} → IsReadable text found → list ≡ found → SpellsData text d list rest → rest ≡ [] → IsDataText text d
  by_data {found = found} is e read f = record { tokens = found; has_tokens = is.has_tokens; level = is.level; spelled = spelled_whole (SpellsData text d) e read f }

  pub data_readable : (is : IsDataText text d) → IsReadable text is.tokens
  data_readable is = record { has_tokens = is.has_tokens; level = is.level }

  pub data_read : {found list : List Token} → HasTokens text found → list ≡ found → IsDataText text d → SpellsData text d list []
  data_read has e is = read_whole (λ (x : List Token). SpellsData text d x []) has e is.has_tokens is.spelled

-- Lines that are tuples.
module _ {line : List ℕ} {ds : List PlainData} where
  pub by_tuple : {found list rest : List Token} → IsReadable line found → list ≡ found → SpellsTuple line ds list rest → rest ≡ [] → IsTupleLine line ds
  by_tuple {found = found} is e read f = record { tokens = found; has_tokens = is.has_tokens; level = is.level; spelled = spelled_whole (SpellsTuple line ds) e read f }

  pub tuple_readable : (is : IsTupleLine line ds) → IsReadable line is.tokens
  tuple_readable is = record { has_tokens = is.has_tokens; level = is.level }

  pub tuple_read : {found list : List Token} → HasTokens line found → list ≡ found → IsTupleLine line ds → SpellsTuple line ds list []
  tuple_read has e is = read_whole (λ (x : List Token). SpellsTuple line ds x []) has e is.has_tokens is.spelled

-- Data expressions in brackets, and the closing one behind them.
pub record InBrackets (text : List ℕ) (ds : List PlainData) (ts r : List Token) : Type 0 where
  pub close : Token
  pub read : SpellsItems text ds ts (close ∷ r)
  pub closed : Closed (close ∷ r)
  pub is_close : close.kind ≡ RightParen

module _ {text : List ℕ} where
  pub by_nothing : {ts us r : List Token} {t v : Token} → ts ≡ t ∷ us → t.kind ≡ LeftParen → us ≡ v ∷ r → v.kind ≡ RightParen → SpellsTuple text [] ts r
  by_nothing e h f i = rw (e, f) (tuple_empty h i)

  pub by_items : {ts us vs r : List Token} {t v : Token} {ds : List PlainData} → ts ≡ t ∷ us → t.kind ≡ LeftParen → SpellsItems text ds us vs → vs ≡ v ∷ r → v.kind ≡ RightParen → SpellsTuple text ds ts r
  by_items {us = us} {ds = ds} e h a f i = rw e (tuple_items h (subst (SpellsItems text ds us) f a) i)

  pub no_tuple : {ts r : List Token} {ds : List PlainData} → (Begins LeftParen ts → ⊥) → SpellsTuple text ds ts r → ⊥
  no_tuple none (tuple_empty h i) = none h
  no_tuple none (tuple_items h a i) = none h

  nothing_only : {ds : List PlainData} {t v : Token} {us r : List Token} → v.kind ≡ RightParen → SpellsTuple text ds (t ∷ v ∷ us) r → ([] ≡ ds) × (us ≡ r)
  nothing_only k (tuple_empty h i) = (refl, refl)
  nothing_only k (tuple_items h a i) = absurd (items_paren a k)

  pub closes_only : {ds : List PlainData} {ts us vs r : List Token} {t v : Token} → ts ≡ t ∷ us → us ≡ v ∷ vs → v.kind ≡ RightParen → SpellsTuple text ds ts r → ([] ≡ ds) × (vs ≡ r)
  closes_only e f k d = nothing_only k (rw (e, f) at d)

  inner_of : {ds : List PlainData} {t : Token} {us r : List Token} → (Begins RightParen us → ⊥) → SpellsTuple text ds (t ∷ us) r → InBrackets text ds us r
  inner_of unclosed (tuple_empty h i) = absurd (unclosed i)
  inner_of {r = r} unclosed (tuple_items {v = v} h a i) = record { close = v; read = a; closed = closed_paren v r i; is_close = i }

  pub in_brackets : {ds : List PlainData} {ts us r : List Token} {t : Token} → ts ≡ t ∷ us → (Begins RightParen us → ⊥) → SpellsTuple text ds ts r → InBrackets text ds us r
  in_brackets {ds = ds} {r = r} e unclosed d = inner_of unclosed (subst (λ (x : List Token). SpellsTuple text ds x r) e d)
