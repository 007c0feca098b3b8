-- No front of the same tokens is read as two data expressions, where each reading stops at what can't go on.
use Rattle.std.proofs.Common.{◌≡◌, ◌≢◌, ℕ, suc, List, [], ◌∷◌, Option, Some, None, refl, ap, sym, ◌∙◌, subst, inl, inr, arith}
use Rattle.mcrl2_lexer.specs.declared.kind.Kind.{Kind}
use Rattle.mcrl2_lexer.specs.declared.kind.Kind.TheVariants.{Identifier, Numeral, TrueWord, FalseWord, LeftParen, RightParen, LeftBracket, RightBracket, Comma}
use Rattle.mcrl2_lexer.specs.declared.token.Token.{Token}
use Rattle.mcrl2_syntax.specs.declared.data_tree.PrefixSign.{PrefixSign}
use Rattle.mcrl2_syntax.specs.declared.data_tree.InfixSign.{InfixSign}
use Rattle.mcrl2_syntax.specs.Words.{span_of, joined}
use Rattle.mcrl2_syntax.specs.DataTrees.{PlainData, Operand, listed, applied, brackets, prefix, datas_of, data_span}
use Rattle.mcrl2_syntax.specs.InfixSigns.{prefix_of, infix_of, level_of, height_of, height, grouped}
use Rattle.mcrl2_syntax.specs.SpelledWords.{token_word}
use Rattle.mcrl2_syntax.specs.SpelledData.{SpellsUnit, unit_name, unit_numeral, unit_true, unit_false, unit_empty, unit_list, unit_apply, unit_brackets, unit_prefix, SpellsItems, items_last, items_more, SpellsLevel, level_unit, level_chain, SpellsTail, tail_end, tail_more}
use Rattle.mcrl2_syntax.specs.Follow.{Stops, Closed}
use Rattle.mcrl2_syntax.proofs.Lists.{heads, tails, moved}

pub stops_less : (k : ℕ) (ts : List Token) → Stops (suc k) ts → Stops k ts
stops_less k [] s = tt
stops_less k (t ∷ ts) s = (s.0, elim s.1 [ inl e ↦ inl e | inr h ↦ inr (omega arith) ])

-- a token that is no bracket and no infix sign
pub stops_at : (kind : Kind) → kind ≢ LeftParen → height kind ≡ 0 → (k : ℕ) (t : Token) (ts : List Token) → t.kind ≡ kind → Stops k (t ∷ ts)
stops_at kind no_open flat k t ts e = (λ f. no_open (sym e ∙ f), inl (ap height e ∙ flat))

pub sign_height : (kind : Kind) {sign : InfixSign} {n : ℕ} → infix_of kind ≡ Some sign → level_of sign ≡ n → height kind ≡ n
sign_height kind h i = ap height_of h ∙ i

pub stops_at_sign : (k : ℕ) (t : Token) (ts : List Token) → height t.kind ≡ suc k → Stops k (t ∷ ts)
stops_at_sign k t ts e = (λ f. let g : height t.kind ≡ 0 = ap height f in absurd (omega (arith, e, g)), inr (omega (arith, e)))

pub stops_before : {text : List ℕ} {k : ℕ} {os : List Operand} {us r : List Token} → SpellsTail text k os us r → Stops (suc k) r → Stops k us
stops_before (tail_end {k = k} {r = r}) s = stops_less k r s
stops_before (tail_more {k = k} {t = t} {ts = ts} h i a b) s = stops_at_sign k t ts (sign_height t.kind h i)

pub not_sign : (k : ℕ) (t : Token) (ts : List Token) → height t.kind ≡ suc k → Stops (suc k) (t ∷ ts) → ⊥
not_sign k t ts e s = elim s.1 [ inl f ↦ omega (arith, e, f) | inr f ↦ omega (arith, e, f) ]

pub not_prefix : (c : Kind) {k : Kind} {sign : PrefixSign} → prefix_of c ≡ None → k ≡ c → prefix_of k ≡ Some sign → ⊥
not_prefix c {k = k} {sign = sign} p e f = let g : None ≡ Some sign = sym p ∙ ap prefix_of (sym e) ∙ f in cc

pub same_sign : {A : Type 0} {o : Option A} {a b : A} → o ≡ Some a → o ≡ Some b → a ≡ b
same_sign e f = cc

pub tail_from : {text : List ℕ} {k : ℕ} {os : List Operand} {ts us r : List Token} → ts ≡ us → SpellsTail text k os us r → SpellsTail text k os ts r
tail_from {text = text} {k = k} {os = os} {r = r} e d = subst (λ (x : List Token). SpellsTail text k os x r) (sym e) d

items_from : {text : List ℕ} {ds : List PlainData} {ts us r : List Token} → ts ≡ us → SpellsItems text ds us r → SpellsItems text ds ts r
items_from {text = text} {ds = ds} {r = r} e d = subst (λ (x : List Token). SpellsItems text ds x r) (sym e) d

-- no expression begins with a closing bracket
unit_opens : {text : List ℕ} {d : PlainData} {t : Token} {ts r : List Token} → SpellsUnit text d (t ∷ ts) r → t.kind ≡ RightBracket → ⊥
unit_opens (unit_prefix h a) e = not_prefix RightBracket refl e h
unit_opens (unit_name h) e = cc
unit_opens (unit_numeral h) e = cc
unit_opens (unit_true h) e = cc
unit_opens (unit_false h) e = cc
unit_opens (unit_empty h i) e = cc
unit_opens (unit_list h a i) e = cc
unit_opens (unit_apply h i a j) e = cc
unit_opens (unit_brackets h a i) e = cc

level_opens : {text : List ℕ} {k : ℕ} {d : PlainData} {t : Token} {ts r : List Token} → SpellsLevel text k d (t ∷ ts) r → t.kind ≡ RightBracket → ⊥
level_opens (level_unit a) e = unit_opens a e
level_opens (level_chain a b) e = level_opens a e

pub items_opens : {text : List ℕ} {ds : List PlainData} {t : Token} {ts r : List Token} → SpellsItems text ds (t ∷ ts) r → t.kind ≡ RightBracket → ⊥
items_opens (items_last a) e = level_opens a e
items_opens (items_more a h b) e = level_opens a e

unit_paren : {text : List ℕ} {d : PlainData} {t : Token} {ts r : List Token} → SpellsUnit text d (t ∷ ts) r → t.kind ≡ RightParen → ⊥
unit_paren (unit_prefix h a) e = not_prefix RightParen refl e h
unit_paren (unit_name h) e = cc
unit_paren (unit_numeral h) e = cc
unit_paren (unit_true h) e = cc
unit_paren (unit_false h) e = cc
unit_paren (unit_empty h i) e = cc
unit_paren (unit_list h a i) e = cc
unit_paren (unit_apply h i a j) e = cc
unit_paren (unit_brackets h a i) e = cc

level_paren : {text : List ℕ} {k : ℕ} {d : PlainData} {t : Token} {ts r : List Token} → SpellsLevel text k d (t ∷ ts) r → t.kind ≡ RightParen → ⊥
level_paren (level_unit a) e = unit_paren a e
level_paren (level_chain a b) e = level_paren a e

pub items_paren : {text : List ℕ} {ds : List PlainData} {t : Token} {ts r : List Token} → SpellsItems text ds (t ∷ ts) r → t.kind ≡ RightParen → ⊥
items_paren (items_last a) e = level_paren a e
items_paren (items_more a h b) e = level_paren a e

pub closed_paren : (v : Token) (r : List Token) → v.kind ≡ RightParen → Closed (v ∷ r)
closed_paren v r e = record { stops = stops_at RightParen (λ f. cc) refl 11 v r e; comma = λ f. cc }

pub closed_bracket : (v : Token) (r : List Token) → v.kind ≡ RightBracket → Closed (v ∷ r)
closed_bracket v r e = record { stops = stops_at RightBracket (λ f. cc) refl 11 v r e; comma = λ f. cc }

pub stops_comma : (k : ℕ) (v : Token) (r : List Token) → v.kind ≡ Comma → Stops k (v ∷ r)
stops_comma k v r e = stops_at Comma (λ f. cc) refl k v r e

mutual
  pub unit_once : {text : List ℕ} {d e : PlainData} {ts q r : List Token} → SpellsUnit text d ts q → SpellsUnit text e ts r → Stops 0 q → Stops 0 r → (d ≡ e) × (q ≡ r)
  unit_once (unit_name h) (unit_name k) s t = (refl, refl)
  unit_once (unit_name h) (unit_apply k i b j) s t = absurd (s.0 i)
  unit_once (unit_name h) (unit_prefix k b) s t = absurd (not_prefix Identifier refl h k)
  unit_once (unit_name h) (unit_numeral k) s t = absurd cc
  unit_once (unit_name h) (unit_true k) s t = absurd cc
  unit_once (unit_name h) (unit_false k) s t = absurd cc
  unit_once (unit_name h) (unit_empty k j) s t = absurd cc
  unit_once (unit_name h) (unit_list k b j) s t = absurd cc
  unit_once (unit_name h) (unit_brackets k b j) s t = absurd cc
  unit_once (unit_numeral h) (unit_numeral k) s t = (refl, refl)
  unit_once (unit_numeral h) (unit_prefix k b) s t = absurd (not_prefix Numeral refl h k)
  unit_once (unit_numeral h) (unit_name k) s t = absurd cc
  unit_once (unit_numeral h) (unit_true k) s t = absurd cc
  unit_once (unit_numeral h) (unit_false k) s t = absurd cc
  unit_once (unit_numeral h) (unit_empty k j) s t = absurd cc
  unit_once (unit_numeral h) (unit_list k b j) s t = absurd cc
  unit_once (unit_numeral h) (unit_apply k l b j) s t = absurd cc
  unit_once (unit_numeral h) (unit_brackets k b j) s t = absurd cc
  unit_once (unit_true h) (unit_true k) s t = (refl, refl)
  unit_once (unit_true h) (unit_prefix k b) s t = absurd (not_prefix TrueWord refl h k)
  unit_once (unit_true h) (unit_name k) s t = absurd cc
  unit_once (unit_true h) (unit_numeral k) s t = absurd cc
  unit_once (unit_true h) (unit_false k) s t = absurd cc
  unit_once (unit_true h) (unit_empty k j) s t = absurd cc
  unit_once (unit_true h) (unit_list k b j) s t = absurd cc
  unit_once (unit_true h) (unit_apply k l b j) s t = absurd cc
  unit_once (unit_true h) (unit_brackets k b j) s t = absurd cc
  unit_once (unit_false h) (unit_false k) s t = (refl, refl)
  unit_once (unit_false h) (unit_prefix k b) s t = absurd (not_prefix FalseWord refl h k)
  unit_once (unit_false h) (unit_name k) s t = absurd cc
  unit_once (unit_false h) (unit_numeral k) s t = absurd cc
  unit_once (unit_false h) (unit_true k) s t = absurd cc
  unit_once (unit_false h) (unit_empty k j) s t = absurd cc
  unit_once (unit_false h) (unit_list k b j) s t = absurd cc
  unit_once (unit_false h) (unit_apply k l b j) s t = absurd cc
  unit_once (unit_false h) (unit_brackets k b j) s t = absurd cc
  unit_once (unit_empty h i) (unit_empty k j) s t = (refl, refl)
  unit_once (unit_empty h i) (unit_list k b j) s t = absurd (items_opens b i)
  unit_once (unit_empty h i) (unit_prefix k b) s t = absurd (not_prefix LeftBracket refl h k)
  unit_once (unit_empty h i) (unit_name k) s t = absurd cc
  unit_once (unit_empty h i) (unit_numeral k) s t = absurd cc
  unit_once (unit_empty h i) (unit_true k) s t = absurd cc
  unit_once (unit_empty h i) (unit_false k) s t = absurd cc
  unit_once (unit_empty h i) (unit_apply k l b j) s t = absurd cc
  unit_once (unit_empty h i) (unit_brackets k b j) s t = absurd cc
  unit_once (unit_list h a i) (unit_empty k j) s t = absurd (items_opens a j)
  unit_once (unit_list {t = x} {v = v} {ds = ds} {r = q} h a i) (unit_list {v = w} {ds = es} {r = r} k b j) s t =
      let e = items_once a b (closed_bracket v q i) (closed_bracket w r j) in
      (ap (λ (y : Token). listed (span_of x y) (datas_of ds)) (heads e.1) ∙ ap (λ (y : List PlainData). listed (span_of x w) (datas_of y)) e.0, tails e.1)
  unit_once (unit_list h a i) (unit_prefix k b) s t = absurd (not_prefix LeftBracket refl h k)
  unit_once (unit_list h a i) (unit_name k) s t = absurd cc
  unit_once (unit_list h a i) (unit_numeral k) s t = absurd cc
  unit_once (unit_list h a i) (unit_true k) s t = absurd cc
  unit_once (unit_list h a i) (unit_false k) s t = absurd cc
  unit_once (unit_list h a i) (unit_apply k l b j) s t = absurd cc
  unit_once (unit_list h a i) (unit_brackets k b j) s t = absurd cc
  unit_once (unit_apply h i a j) (unit_name k) s t = absurd (t.0 i)
  unit_once {text = text} (unit_apply {t = x} {v = v} {ds = ds} {r = q} h i a j) (unit_apply {v = w} {ds = es} {r = r} k l b m) s t =
      let e = items_once a b (closed_paren v q j) (closed_paren w r m) in
      (ap (λ (y : Token). applied (span_of x y) (token_word text x) (datas_of ds)) (heads e.1) ∙ ap (λ (y : List PlainData). applied (span_of x w) (token_word text x) (datas_of y)) e.0, tails e.1)
  unit_once (unit_apply h i a j) (unit_prefix k b) s t = absurd (not_prefix Identifier refl h k)
  unit_once (unit_apply h i a g) (unit_numeral k) s t = absurd cc
  unit_once (unit_apply h i a g) (unit_true k) s t = absurd cc
  unit_once (unit_apply h i a g) (unit_false k) s t = absurd cc
  unit_once (unit_apply h i a g) (unit_empty k j) s t = absurd cc
  unit_once (unit_apply h i a g) (unit_list k b j) s t = absurd cc
  unit_once (unit_apply h i a g) (unit_brackets k b j) s t = absurd cc
  unit_once (unit_brackets {t = x} {v = v} {d = d} {r = q} h a i) (unit_brackets {v = w} {d = e} {r = r} k b j) s t =
      let f = level_once a b (closed_paren v q i).stops (closed_paren w r j).stops in
      (ap (λ (y : Token). brackets (span_of x y) d) (heads f.1) ∙ ap (λ (y : PlainData). brackets (span_of x w) y) f.0, tails f.1)
  unit_once (unit_brackets h a i) (unit_prefix k b) s t = absurd (not_prefix LeftParen refl h k)
  unit_once (unit_brackets h a i) (unit_name k) s t = absurd cc
  unit_once (unit_brackets h a i) (unit_numeral k) s t = absurd cc
  unit_once (unit_brackets h a i) (unit_true k) s t = absurd cc
  unit_once (unit_brackets h a i) (unit_false k) s t = absurd cc
  unit_once (unit_brackets h a i) (unit_empty k j) s t = absurd cc
  unit_once (unit_brackets h a i) (unit_list k b j) s t = absurd cc
  unit_once (unit_brackets h a i) (unit_apply k l b j) s t = absurd cc
  unit_once (unit_prefix h a) (unit_name k) s t = absurd (not_prefix Identifier refl k h)
  unit_once (unit_prefix h a) (unit_numeral k) s t = absurd (not_prefix Numeral refl k h)
  unit_once (unit_prefix h a) (unit_true k) s t = absurd (not_prefix TrueWord refl k h)
  unit_once (unit_prefix h a) (unit_false k) s t = absurd (not_prefix FalseWord refl k h)
  unit_once (unit_prefix h a) (unit_empty k j) s t = absurd (not_prefix LeftBracket refl k h)
  unit_once (unit_prefix h a) (unit_list k b j) s t = absurd (not_prefix LeftBracket refl k h)
  unit_once (unit_prefix h a) (unit_apply k i b j) s t = absurd (not_prefix Identifier refl k h)
  unit_once (unit_prefix h a) (unit_brackets k b j) s t = absurd (not_prefix LeftParen refl k h)
  unit_once (unit_prefix {t = x} {sign = sign} {d = d} h a) (unit_prefix {sign = other} {d = e} k b) s t =
      let f = unit_once a b s t in
      (ap (λ (y : PrefixSign). prefix (joined (span_of x x) (data_span d)) y d) (same_sign h k) ∙ ap (λ (y : PlainData). prefix (joined (span_of x x) (data_span y)) other y) f.0, f.1)

  pub items_once : {text : List ℕ} {ds es : List PlainData} {ts q r : List Token} → SpellsItems text ds ts q → SpellsItems text es ts r → Closed q → Closed r → (ds ≡ es) × (q ≡ r)
  items_once (items_last a) (items_last b) s t = let e = level_once a b s.stops t.stops in (ap (λ (y : PlainData). y ∷ []) e.0, e.1)
  items_once (items_last a) (items_more {v = w} {us = us} b k c) s t =
      let e = level_once a b s.stops (stops_comma 11 w us k) in absurd (s.comma (moved Comma (sym e.1) k))
  items_once (items_more {v = v} {us = us} a h c) (items_last b) s t =
      let e = level_once a b (stops_comma 11 v us h) t.stops in absurd (t.comma (moved Comma e.1 h))
  items_once (items_more {ds = ds} {v = v} {us = us} a h c) (items_more {d = y} {v = w} {us = vs} b k d) s t =
      let e = level_once a b (stops_comma 11 v us h) (stops_comma 11 w vs k) in
      let f = items_once c (items_from (tails e.1) d) s t in
      (ap (λ (z : PlainData). z ∷ ds) e.0 ∙ ap (λ (z : List PlainData). y ∷ z) f.0, f.1)

  pub level_once : {text : List ℕ} {k : ℕ} {d e : PlainData} {ts q r : List Token} → SpellsLevel text k d ts q → SpellsLevel text k e ts r → Stops k q → Stops k r → (d ≡ e) × (q ≡ r)
  level_once (level_unit a) (level_unit b) s t = unit_once a b s t
  level_once (level_chain {k = k} {d = d} {os = os} a b) (level_chain {d = e} {os = ps} c f) s t =
      let first = level_once a c (stops_before b s) (stops_before f t) in
      let rest = tail_once b (tail_from first.1 f) s t in
      (ap (λ (y : PlainData). grouped (suc k) y os) first.0 ∙ ap (λ (y : List Operand). grouped (suc k) e y) rest.0, rest.1)

  pub tail_once : {text : List ℕ} {k : ℕ} {os ps : List Operand} {ts q r : List Token} → SpellsTail text k os ts q → SpellsTail text k ps ts r → Stops (suc k) q → Stops (suc k) r → (os ≡ ps) × (q ≡ r)
  tail_once tail_end tail_end s t = (refl, refl)
  tail_once (tail_end {k = k}) (tail_more {t = x} {ts = ts} h i a b) s t = absurd (not_sign k x ts (sign_height x.kind h i) s)
  tail_once (tail_more {k = k} {t = x} {ts = ts} h i a b) tail_end s t = absurd (not_sign k x ts (sign_height x.kind h i) t)
  tail_once (tail_more {sign = sign} {d = d} {os = os} h i a b) (tail_more {sign = other} {d = e} {os = ps} j l c f) s t =
      let first = level_once a c (stops_before b s) (stops_before f t) in
      let rest = tail_once b (tail_from first.1 f) s t in
      (ap (λ (y : InfixSign). (y, d) ∷ os) (same_sign h j) ∙ ap (λ (y : PlainData). (other, y) ∷ os) first.0 ∙ ap (λ (y : List Operand). (other, e) ∷ y) rest.0, rest.1)
