-- The tokens of an expression are those that spell it.
use Rattle.std.proofs.Common.{◌≡◌, ℕ, suc, List, [], ◌∷◌, codes, Some, refl, sym, ap, ap₂, ◌∙◌, arith}
use Rattle.mcrl2_lexer.specs.declared.kind.Kind.{Kind}
use Rattle.mcrl2_lexer.specs.declared.kind.Kind.TheVariants as kind_
use Rattle.mcrl2_lexer.specs.declared.token.Token.{Token}
use Rattle.mcrl2_lexer.specs.Tokens.{slice_of}
use Rattle.mcrl2_syntax.specs.declared.data_tree.PrefixSign.{PrefixSign}
use Rattle.mcrl2_syntax.specs.declared.data_tree.PrefixSign.TheVariants as prefixes
use Rattle.mcrl2_syntax.specs.declared.data_tree.InfixSign.{InfixSign}
use Rattle.mcrl2_syntax.specs.declared.data_tree.InfixSign.TheVariants as infixes
use Rattle.mcrl2_syntax.specs.DataTrees.{PlainData, Operand, datas_of}
use Rattle.mcrl2_syntax.specs.InfixSigns.{prefix_of, infix_of}
use Rattle.mcrl2_syntax.specs.SpelledData.{SpellsUnit, unit_name, unit_numeral, unit_true, unit_false, unit_empty, unit_list, unit_apply, unit_brackets, unit_prefix, SpellsItems, items_last, items_more, SpellsLevel, level_unit, level_chain, SpellsTail, tail_end, tail_more}
use Rattle.sort_table.specs.BareData.{prefix_text, infix_text}
use Rattle.lps_printer.specs.CopiedTokens.{Copied, AreCopied}
use Rattle.lps_printer.specs.DataLayout.{prefix_kind, infix_kind}
use Rattle.lps_printer.specs.TreeTokens.{token, comma, data_tokens, datas_tokens}
use Rattle.lps_printer.proofs.KindTexts.{text_of_kind}
use Rattle.lps_printer.proofs.SpelledTokens.{said, IsSaid, fixed, named, one, signed, AreOfLevel, grouped_is}

prefix_is : (k : Kind) (s : PrefixSign) → prefix_of k ≡ Some s → k ≡ prefix_kind s
prefix_is k s h = grind arith

infix_is : (k : Kind) (s : InfixSign) → infix_of k ≡ Some s → k ≡ infix_kind s
infix_is k s h = grind arith

prefix_said : (s : PrefixSign) → text_of_kind (prefix_kind s) ≡ Some (prefix_text s)
prefix_said prefixes.Not = refl
prefix_said prefixes.Negate = refl
prefix_said prefixes.Size = refl

infix_said : (s : InfixSign) → text_of_kind (infix_kind s) ≡ Some (infix_text s)
infix_said infixes.Implies = refl
infix_said infixes.Or = refl
infix_said infixes.And = refl
infix_said infixes.Equal = refl
infix_said infixes.NotEqual = refl
infix_said infixes.Less = refl
infix_said infixes.LessEqual = refl
infix_said infixes.Greater = refl
infix_said infixes.GreaterEqual = refl
infix_said infixes.In = refl
infix_said infixes.Prepend = refl
infix_said infixes.Append = refl
infix_said infixes.Concat = refl
infix_said infixes.Add = refl
infix_said infixes.Subtract = refl
infix_said infixes.Div = refl
infix_said infixes.Mod = refl
infix_said infixes.Multiply = refl
infix_said infixes.At = refl

tail_level : (text : List ℕ) (k : ℕ) (os : List Operand) (ts r : List Token) → SpellsTail text k os ts r → AreOfLevel (suc k) os
tail_level text k os ts r tail_end = tt
tail_level text k os ts r (tail_more {os = others} {us = us} e l first more) = (l, tail_level text k others us r more)

-- a token, and what stands between it and another one
enclosed : (text : List ℕ) (f : List Copied → List Copied) (t v : Token) (c d : Copied) (us r : List Token) → c ≡ token t.kind (slice_of text t) → d ≡ token v.kind (slice_of text v) → IsSaid text f us (v ∷ r) → IsSaid text (λ rest. c ∷ f (d ∷ rest)) (t ∷ us) r
enclosed text f t v c d us r e l i = record { is = ap₂ (λ (x : Copied) (xs : List Copied). x ∷ xs) e (ap (λ x. f (x ∷ said text r)) l ∙ i.is); rest = i.rest.1 }

no_items : {text : List ℕ} {us r : List Token} → SpellsItems text [] us r → ⊥
no_items h = elim h [ ]

mutual
  pub unit_said : (text : List ℕ) (d : PlainData) (ts r : List Token) → SpellsUnit text d ts r → AreCopied (said text ts) → IsSaid text (data_tokens d) ts r
  unit_said text d ts r (unit_name {t = t} k) h = one text t r _ (named text t k) h.1
  unit_said text d ts r (unit_numeral {t = t} k) h = one text t r _ (ap (λ j. token j (slice_of text t)) (sym k)) h.1
  unit_said text d ts r (unit_true {t = t} k) h = one text t r _ (fixed text t kind_.TrueWord (codes "true") refl k h.0) h.1
  unit_said text d ts r (unit_false {t = t} k) h = one text t r _ (fixed text t kind_.FalseWord (codes "false") refl k h.0) h.1
  unit_said text d ts r (unit_empty {t = t} {v = v} k l) h =
      enclosed text (λ rest. rest) t v _ _ (v ∷ r) r (fixed text t kind_.LeftBracket (codes "[") refl k h.0) (fixed text v kind_.RightBracket (codes "]") refl l h.1.0) (record { is = refl; rest = h.1 })
  unit_said text d ts r (unit_list {t = t} {v = v} {ds = ds} {ts = us} k items l) h =
      let i = items_said text ds us (v ∷ r) items h.1 in
      enclosed text (datas_tokens comma (datas_of ds)) t v _ _ us r (fixed text t kind_.LeftBracket (codes "[") refl k h.0) (fixed text v kind_.RightBracket (codes "]") refl l i.rest.0) i
  unit_said text d ts r (unit_apply {t = t} {u = u} {v = v} {ds = ds} {ts = us} k l items m) h =
      let i = items_said text ds us (v ∷ r) items h.1.1 in
      let e = enclosed text (datas_tokens comma (datas_of ds)) u v _ _ us r (fixed text u kind_.LeftParen (codes "(") refl l h.1.0) (fixed text v kind_.RightParen (codes ")") refl m i.rest.0) i in
      record { is = ap₂ (λ (x : Copied) (xs : List Copied). x ∷ xs) (named text t k) e.is; rest = e.rest }
  unit_said text d ts r (unit_brackets {t = t} {v = v} {d = inner} {ts = us} k level l) h =
      let i = level_said text 11 inner us (v ∷ r) level h.1 in
      enclosed text (data_tokens inner) t v _ _ us r (fixed text t kind_.LeftParen (codes "(") refl k h.0) (fixed text v kind_.RightParen (codes ")") refl l i.rest.0) i
  unit_said text d ts r (unit_prefix {t = t} {sign = sign} {d = inner} {ts = us} e unit) h =
      let i = unit_said text inner us r unit h.1 in
      record { is = ap₂ (λ (x : Copied) (xs : List Copied). x ∷ xs) (fixed text t (prefix_kind sign) (prefix_text sign) (prefix_said sign) (prefix_is t.kind sign e) h.0) i.is; rest = i.rest }

  items_said : (text : List ℕ) (ds : List PlainData) (ts r : List Token) → SpellsItems text ds ts r → AreCopied (said text ts) → IsSaid text (datas_tokens comma (datas_of ds)) ts r
  items_said text ds ts r (items_last {d = d} level) h = level_said text 11 d ts r level h
  items_said text ds ts r (items_more {d = d} {ds = []} level k more) h = absurd (no_items more)
  items_said text ds ts r (items_more {d = d} {ds = e ∷ es} {v = v} {us = us} level k more) h =
      let first = level_said text 11 d ts (v ∷ us) level h in
      let others = items_said text (e ∷ es) us r more first.rest.1 in
      record { is = ap (data_tokens d) (ap₂ (λ (x : Copied) (xs : List Copied). x ∷ xs) (fixed text v kind_.Comma (codes ",") refl k first.rest.0) others.is) ∙ first.is; rest = others.rest }

  pub level_said : (text : List ℕ) (k : ℕ) (d : PlainData) (ts r : List Token) → SpellsLevel text k d ts r → AreCopied (said text ts) → IsSaid text (data_tokens d) ts r
  level_said text k d ts r (level_unit unit) h = unit_said text d ts r unit h
  level_said text k d ts r (level_chain {k = j} {d = first} {os = os} {us = us} level more) h =
      let i = level_said text j first ts us level h in
      let o = tail_said text j os us r more i.rest in
      record { is = grouped_is (suc j) first os (said text r) (tail_level text j os us r more) ∙ ap (data_tokens first) o.is ∙ i.is; rest = o.rest }

  tail_said : (text : List ℕ) (k : ℕ) (os : List Operand) (ts r : List Token) → SpellsTail text k os ts r → AreCopied (said text ts) → IsSaid text (signed os) ts r
  tail_said text k os ts r tail_end h = record { is = refl; rest = h }
  tail_said text k os ts r (tail_more {sign = sign} {d = d} {os = others} {t = t} {ts = vs} {us = us} e l first more) h =
      let i = level_said text k d vs us first h.1 in
      let o = tail_said text k others us r more i.rest in
      record { is = ap₂ (λ (x : Copied) (xs : List Copied). x ∷ xs) (fixed text t (infix_kind sign) (infix_text sign) (infix_said sign) (infix_is t.kind sign e) h.0) (ap (data_tokens d) o.is ∙ i.is); rest = o.rest }
