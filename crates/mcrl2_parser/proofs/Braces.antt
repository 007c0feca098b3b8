-- Parts in braces, as the code comes to them.
use Rattle.std.proofs.Common.{◌≡◌, List, [], ◌∷◌, refl, subst}
use Rattle.mcrl2_lexer.specs.declared.kind.Kind.TheVariants.{LeftBrace, RightBrace, Comma}
use Rattle.mcrl2_lexer.specs.declared.token.Token.{Token}
use Rattle.mcrl2_syntax.specs.Words.{Begins}
use Rattle.mcrl2_syntax.specs.SpelledWords.{SpellsList, last_item, more_items, SpellsBraces, no_items, some_items}
use Rattle.mcrl2_syntax.proofs.LabelsOnce.{no_other}
use Rattle.mcrl2_parser.specs.Lists.{StopsAt, NeverBegins}

module _ {Part : Type 0} (spells : Part → List Token → List Token → Type 0) where
  abbrev pub IsIn : List Part → List Token → List Token → Type 0
  IsIn = SpellsBraces spells

  pub by_nothing : {ts us r : List Token} {t v : Token} → ts ≡ t ∷ us → t.kind ≡ LeftBrace → us ≡ v ∷ r → v.kind ≡ RightBrace → IsIn [] ts r
  by_nothing e h f i = rw (e, f) (no_items h i)

  pub by_parts : {ts us vs r : List Token} {t v : Token} {parts : List Part} → ts ≡ t ∷ us → t.kind ≡ LeftBrace → SpellsList spells Comma parts us vs → vs ≡ v ∷ r → v.kind ≡ RightBrace → IsIn parts ts r
  by_parts {us = us} {parts = parts} e h a f i = rw e (some_items h (subst (λ (x : List Token). SpellsList spells Comma parts us x) f a) i)

  pub no_braces : {ts r : List Token} {parts : List Part} → (Begins LeftBrace ts → ⊥) → IsIn parts ts r → ⊥
  no_braces none (no_items h i) = none h
  no_braces none (some_items h a i) = none h

  -- no list of parts begins with the brace that closes
  no_list : {parts : List Part} {v : Token} {ts r : List Token} → NeverBegins spells RightBrace → SpellsList spells Comma parts (v ∷ ts) r → v.kind ≡ RightBrace → ⊥
  no_list {v = v} {ts = ts} {r = r} begins (last_item {item = part} a) h = begins part v ts r a h
  no_list {v = v} {ts = ts} begins (more_items {item = part} {sign = sign} {us = us} a i b) h = begins part v ts (sign ∷ us) a h

  nothing_only : {parts : List Part} {t v : Token} {us r : List Token} → NeverBegins spells RightBrace → v.kind ≡ RightBrace → IsIn parts (t ∷ v ∷ us) r → ([] ≡ parts) × (us ≡ r)
  nothing_only begins k (no_items h i) = (refl, refl)
  nothing_only begins k (some_items h a i) = absurd (no_list begins a k)

  pub closes_only : {parts : List Part} {ts us vs r : List Token} {t v : Token} → NeverBegins spells RightBrace → ts ≡ t ∷ us → us ≡ v ∷ vs → v.kind ≡ RightBrace → IsIn parts ts r → ([] ≡ parts) × (vs ≡ r)
  closes_only {parts = parts} {r = r} begins e f k d = nothing_only begins k (rw (e, f) at d)

  -- the parts that stand in braces, and the brace behind them
  pub record Inner (parts : List Part) (ts r : List Token) : Type 0 where
    pub brace : Token
    pub read : SpellsList spells Comma parts ts (brace ∷ r)
    pub is_brace : brace.kind ≡ RightBrace

  inner_of : {parts : List Part} {t : Token} {us r : List Token} → (Begins RightBrace us → ⊥) → IsIn parts (t ∷ us) r → Inner parts us r
  inner_of unclosed (no_items h i) = absurd (unclosed i)
  inner_of unclosed (some_items {v = v} h a i) = record { brace = v; read = a; is_brace = i }

  pub inner : {parts : List Part} {ts us r : List Token} {t : Token} → ts ≡ t ∷ us → (Begins RightBrace us → ⊥) → IsIn parts ts r → Inner parts us r
  inner {parts = parts} {r = r} e unclosed d = inner_of unclosed (subst (λ (x : List Token). IsIn parts x r) e d)

  -- what a reader of the list between the braces says of them
  module _ (stops : List Token → Type 0) (brace : StopsAt stops RightBrace) {Goal : List Part → List Token → Type 0} {us : List Token}
      (only : (parts : List Part) (r : List Token) → SpellsList spells Comma parts us r → stops r → (Begins Comma r → ⊥) → Goal parts r) where
    pub between : {parts : List Part} {ts r : List Token} {t : Token} → ts ≡ t ∷ us → (Begins RightBrace us → ⊥) → IsIn parts ts r → (v : Token) × Goal parts (v ∷ r) × (v.kind ≡ RightBrace)
    between {parts = parts} {r = r} e unclosed d =
        let i = inner e unclosed d in
        (i.brace, only parts (i.brace ∷ r) i.read (brace i.brace r i.is_brace) (no_other RightBrace Comma i.brace r i.is_brace (λ f. cc)), i.is_brace)
