-- The expressions without infix signs, as the code comes to them: each rule, and that no other reading is.
use Rattle.std.proofs.Common.{◌≡◌, ℕ, List, ◌∷◌, Some, None, refl, ap, sym, ◌∙◌, subst}
use Rattle.mcrl2_lexer.specs.declared.kind.Kind.TheVariants.{Identifier, Numeral, TrueWord, FalseWord, LeftParen, RightParen, LeftBracket, RightBracket}
use Rattle.mcrl2_lexer.specs.declared.token.Token.{Token}
use Rattle.mcrl2_syntax.specs.declared.word.Span.{Span}
use Rattle.mcrl2_syntax.specs.declared.data_tree.PrefixSign.{PrefixSign}
use Rattle.mcrl2_syntax.specs.Words.{PlainWord, Begins, span_of, joined}
use Rattle.mcrl2_syntax.specs.DataTrees.{PlainData, named, numeral, true_data, false_data, listed, applied, brackets, prefix, no_datas, datas_of, data_span}
use Rattle.mcrl2_syntax.specs.InfixSigns.{prefix_of}
use Rattle.mcrl2_syntax.specs.Follow.{Stops, Closed}
use Rattle.mcrl2_syntax.specs.SpelledWords.{token_word}
use Rattle.mcrl2_syntax.specs.SpelledData.{SpellsUnit, SpellsItems, SpellsData, unit_name, unit_numeral, unit_true, unit_false, unit_empty, unit_list, unit_apply, unit_brackets, unit_prefix}
use Rattle.mcrl2_syntax.proofs.Lists.{heads, tails}
use Rattle.mcrl2_syntax.proofs.DataOnce.{not_prefix, same_sign, items_opens, closed_paren, closed_bracket}

-- the one reading of a front of the tokens, if it stops
abbrev pub OnlyUnit : List ℕ → PlainData → List Token → List Token → Type 0
OnlyUnit text d ts us = (e : PlainData) (r : List Token) → SpellsUnit text e ts r → Stops 0 r → (d ≡ e) × (us ≡ r)

abbrev pub OnlyData : List ℕ → PlainData → List Token → List Token → Type 0
OnlyData text d ts us = (e : PlainData) (r : List Token) → SpellsData text e ts r → Stops 11 r → (d ≡ e) × (us ≡ r)

abbrev pub OnlyItems : List ℕ → List PlainData → List Token → List Token → Type 0
OnlyItems text ds ts us = (es : List PlainData) (r : List Token) → SpellsItems text es ts r → Closed r → (ds ≡ es) × (us ≡ r)

-- Words and numerals.
pub by_name : {text : List ℕ} {r : List Token} {t : Token} {w : PlainWord} {x : PlainData} → x ≡ named w → w ≡ token_word text t → t.kind ≡ Identifier → SpellsUnit text x (t ∷ r) r
by_name p i h = rw (p, i) (unit_name h)

pub by_numeral : {text : List ℕ} {ts r : List Token} {t : Token} {w : PlainWord} {x : PlainData} → x ≡ numeral w → w ≡ token_word text t → ts ≡ t ∷ r → t.kind ≡ Numeral → SpellsUnit text x ts r
by_numeral p i e h = rw (p, i, e) (unit_numeral h)

pub by_true : {text : List ℕ} {ts r : List Token} {t : Token} {at : Span} {x : PlainData} → x ≡ true_data at → at ≡ span_of t t → ts ≡ t ∷ r → t.kind ≡ TrueWord → SpellsUnit text x ts r
by_true p i e h = rw (p, i, e) (unit_true h)

pub by_false : {text : List ℕ} {ts r : List Token} {t : Token} {at : Span} {x : PlainData} → x ≡ false_data at → at ≡ span_of t t → ts ≡ t ∷ r → t.kind ≡ FalseWord → SpellsUnit text x ts r
by_false p i e h = rw (p, i, e) (unit_false h)

name_at : {text : List ℕ} {us r : List Token} {t : Token} {d : PlainData} → t.kind ≡ Identifier → (Begins LeftParen us → ⊥) → SpellsUnit text d (t ∷ us) r → (d ≡ named (token_word text t)) × (us ≡ r)
name_at h n (unit_name k) = (refl, refl)
name_at h n (unit_numeral k) = absurd cc
name_at h n (unit_true k) = absurd cc
name_at h n (unit_false k) = absurd cc
name_at h n (unit_empty k j) = absurd cc
name_at h n (unit_list k b j) = absurd cc
name_at h n (unit_apply k i b j) = absurd (n i)
name_at h n (unit_brackets k b j) = absurd cc
name_at h n (unit_prefix k b) = absurd (not_prefix Identifier refl h k)

pub name_only : {text : List ℕ} {us : List Token} {t : Token} {w : PlainWord} {x : PlainData} → x ≡ named w → w ≡ token_word text t → t.kind ≡ Identifier → (Begins LeftParen us → ⊥)
    → (d : PlainData) (r : List Token) → SpellsUnit text d (t ∷ us) r → (x ≡ d) × (us ≡ r)
name_only p i h n d r u = let a = name_at h n u in (p ∙ ap named i ∙ sym a.0, a.1)

numeral_at : {text : List ℕ} {us r : List Token} {t : Token} {d : PlainData} → t.kind ≡ Numeral → SpellsUnit text d (t ∷ us) r → (d ≡ numeral (token_word text t)) × (us ≡ r)
numeral_at h (unit_name k) = absurd cc
numeral_at h (unit_numeral k) = (refl, refl)
numeral_at h (unit_true k) = absurd cc
numeral_at h (unit_false k) = absurd cc
numeral_at h (unit_empty k j) = absurd cc
numeral_at h (unit_list k b j) = absurd cc
numeral_at h (unit_apply k i b j) = absurd cc
numeral_at h (unit_brackets k b j) = absurd cc
numeral_at h (unit_prefix k b) = absurd (not_prefix Numeral refl h k)

pub numeral_only : {text : List ℕ} {ts us : List Token} {t : Token} {w : PlainWord} {x : PlainData} → x ≡ numeral w → w ≡ token_word text t → ts ≡ t ∷ us → t.kind ≡ Numeral
    → (d : PlainData) (r : List Token) → SpellsUnit text d ts r → (x ≡ d) × (us ≡ r)
numeral_only p i e h d r u = let a = numeral_at h (rw e at u) in (p ∙ ap numeral i ∙ sym a.0, a.1)

true_at : {text : List ℕ} {us r : List Token} {t : Token} {d : PlainData} → t.kind ≡ TrueWord → SpellsUnit text d (t ∷ us) r → (d ≡ true_data (span_of t t)) × (us ≡ r)
true_at h (unit_name k) = absurd cc
true_at h (unit_numeral k) = absurd cc
true_at h (unit_true k) = (refl, refl)
true_at h (unit_false k) = absurd cc
true_at h (unit_empty k j) = absurd cc
true_at h (unit_list k b j) = absurd cc
true_at h (unit_apply k i b j) = absurd cc
true_at h (unit_brackets k b j) = absurd cc
true_at h (unit_prefix k b) = absurd (not_prefix TrueWord refl h k)

pub true_only : {text : List ℕ} {ts us : List Token} {t : Token} {at : Span} {x : PlainData} → x ≡ true_data at → at ≡ span_of t t → ts ≡ t ∷ us → t.kind ≡ TrueWord
    → (d : PlainData) (r : List Token) → SpellsUnit text d ts r → (x ≡ d) × (us ≡ r)
true_only p i e h d r u = let a = true_at h (rw e at u) in (p ∙ ap true_data i ∙ sym a.0, a.1)

false_at : {text : List ℕ} {us r : List Token} {t : Token} {d : PlainData} → t.kind ≡ FalseWord → SpellsUnit text d (t ∷ us) r → (d ≡ false_data (span_of t t)) × (us ≡ r)
false_at h (unit_name k) = absurd cc
false_at h (unit_numeral k) = absurd cc
false_at h (unit_true k) = absurd cc
false_at h (unit_false k) = (refl, refl)
false_at h (unit_empty k j) = absurd cc
false_at h (unit_list k b j) = absurd cc
false_at h (unit_apply k i b j) = absurd cc
false_at h (unit_brackets k b j) = absurd cc
false_at h (unit_prefix k b) = absurd (not_prefix FalseWord refl h k)

pub false_only : {text : List ℕ} {ts us : List Token} {t : Token} {at : Span} {x : PlainData} → x ≡ false_data at → at ≡ span_of t t → ts ≡ t ∷ us → t.kind ≡ FalseWord
    → (d : PlainData) (r : List Token) → SpellsUnit text d ts r → (x ≡ d) × (us ≡ r)
false_only p i e h d r u = let a = false_at h (rw e at u) in (p ∙ ap false_data i ∙ sym a.0, a.1)

-- Names with arguments.
pub by_apply : {text : List ℕ} {us vs ws r : List Token} {t u v : Token} {w : PlainWord} {at : Span} {x : PlainData} {ds : List PlainData}
    → x ≡ applied at w (datas_of ds) → at ≡ span_of t v → w ≡ token_word text t → t.kind ≡ Identifier → us ≡ u ∷ vs → u.kind ≡ LeftParen
    → SpellsItems text ds vs ws → ws ≡ v ∷ r → v.kind ≡ RightParen → SpellsUnit text x (t ∷ us) r
by_apply p i j h e g a f k = rw (p, i, j, e) (unit_apply h g (rw f at a) k)

pub record Applied (text : List ℕ) (d : PlainData) (t : Token) (vs r : List Token) : Type 0 where
  pub arguments : List PlainData
  pub close : Token
  pub is : d ≡ applied (span_of t close) (token_word text t) (datas_of arguments)
  pub spelled : SpellsItems text arguments vs (close ∷ r)
  pub closes : close.kind ≡ RightParen

applied_at : {text : List ℕ} {vs r : List Token} {t u : Token} {d : PlainData} → t.kind ≡ Identifier → u.kind ≡ LeftParen → Stops 0 r → SpellsUnit text d (t ∷ u ∷ vs) r → Applied text d t vs r
applied_at h g s (unit_name k) = absurd (s.0 g)
applied_at h g s (unit_numeral k) = absurd cc
applied_at h g s (unit_true k) = absurd cc
applied_at h g s (unit_false k) = absurd cc
applied_at h g s (unit_empty k j) = absurd cc
applied_at h g s (unit_list k b j) = absurd cc
applied_at h g s (unit_apply {v = v} {ds = ds} k i b j) = record { arguments = ds; close = v; is = refl; spelled = b; closes = j }
applied_at h g s (unit_brackets k b j) = absurd cc
applied_at h g s (unit_prefix k b) = absurd (not_prefix Identifier refl h k)

applied_in : {text : List ℕ} {us vs r : List Token} {t u : Token} {d : PlainData} → t.kind ≡ Identifier → us ≡ u ∷ vs → u.kind ≡ LeftParen → Stops 0 r → SpellsUnit text d (t ∷ us) r → Applied text d t vs r
applied_in h e g s u = applied_at h g s (rw e at u)

pub apply_fault : {text : List ℕ} {us vs : List Token} {t u : Token} (Goal : Type 0) → t.kind ≡ Identifier → us ≡ u ∷ vs → u.kind ≡ LeftParen
    → ((ds : List PlainData) (r : List Token) → SpellsItems text ds vs r → Closed r → Goal) → (d : PlainData) (r : List Token) → SpellsUnit text d (t ∷ us) r → Stops 0 r → Goal
apply_fault Goal h e g each d r u s = let a = applied_in h e g s u in each a.arguments (a.close ∷ r) a.spelled (closed_paren a.close r a.closes)

pub apply_unclosed : {text : List ℕ} {us vs ws : List Token} {t u : Token} {ds : List PlainData} → t.kind ≡ Identifier → us ≡ u ∷ vs → u.kind ≡ LeftParen → OnlyItems text ds vs ws
    → (Begins RightParen ws → ⊥) → (d : PlainData) (r : List Token) → SpellsUnit text d (t ∷ us) r → Stops 0 r → ⊥
apply_unclosed h e g only n d r u s =
    let a = applied_in h e g s u in
    n (subst (Begins RightParen) (sym (only a.arguments (a.close ∷ r) a.spelled (closed_paren a.close r a.closes)).1) a.closes)

pub apply_only : {text : List ℕ} {us vs ws q : List Token} {t u v : Token} {w : PlainWord} {at : Span} {x : PlainData} {ds : List PlainData}
    → x ≡ applied at w (datas_of ds) → at ≡ span_of t v → w ≡ token_word text t → t.kind ≡ Identifier → us ≡ u ∷ vs → u.kind ≡ LeftParen
    → OnlyItems text ds vs ws → ws ≡ v ∷ q → (d : PlainData) (r : List Token) → SpellsUnit text d (t ∷ us) r → Stops 0 r → (x ≡ d) × (q ≡ r)
apply_only {text = text} {q = q} {t = t} {v = v} {w = w} {ds = ds} p i j h e g only f d r u s =
    let a = applied_in h e g s u in
    let same = only a.arguments (a.close ∷ r) a.spelled (closed_paren a.close r a.closes) in
    let both : v ∷ q ≡ a.close ∷ r = sym f ∙ same.1 in (
      p ∙ ap (λ (y : Span). applied y w (datas_of ds)) i ∙ ap (λ (y : Token). applied (span_of t y) w (datas_of ds)) (heads both)
          ∙ ap (λ (y : PlainWord). applied (span_of t a.close) y (datas_of ds)) j
          ∙ ap (λ (y : List PlainData). applied (span_of t a.close) (token_word text t) (datas_of y)) same.0 ∙ sym a.is,
      tails both,
    )

-- Lists.
pub by_empty : {text : List ℕ} {us r : List Token} {t v : Token} {at : Span} {x : PlainData} → x ≡ listed at no_datas → at ≡ span_of t v → t.kind ≡ LeftBracket → us ≡ v ∷ r → v.kind ≡ RightBracket
    → SpellsUnit text x (t ∷ us) r
by_empty p i h e k = rw (p, i, e) (unit_empty h k)

pub by_list : {text : List ℕ} {us ws r : List Token} {t v : Token} {at : Span} {x : PlainData} {ds : List PlainData} → x ≡ listed at (datas_of ds) → at ≡ span_of t v → t.kind ≡ LeftBracket
    → SpellsItems text ds us ws → ws ≡ v ∷ r → v.kind ≡ RightBracket → SpellsUnit text x (t ∷ us) r
by_list p i h a e k = rw (p, i) (unit_list h (rw e at a) k)

empty_at : {text : List ℕ} {vs r : List Token} {t v : Token} {d : PlainData} → t.kind ≡ LeftBracket → v.kind ≡ RightBracket → SpellsUnit text d (t ∷ v ∷ vs) r → (d ≡ listed (span_of t v) no_datas) × (vs ≡ r)
empty_at h g (unit_name k) = absurd cc
empty_at h g (unit_numeral k) = absurd cc
empty_at h g (unit_true k) = absurd cc
empty_at h g (unit_false k) = absurd cc
empty_at h g (unit_empty k j) = (refl, refl)
empty_at h g (unit_list k b j) = absurd (items_opens b g)
empty_at h g (unit_apply k i b j) = absurd cc
empty_at h g (unit_brackets k b j) = absurd cc
empty_at h g (unit_prefix k b) = absurd (not_prefix LeftBracket refl h k)

pub empty_only : {text : List ℕ} {us q : List Token} {t v : Token} {at : Span} {x : PlainData} → x ≡ listed at no_datas → at ≡ span_of t v → t.kind ≡ LeftBracket → us ≡ v ∷ q → v.kind ≡ RightBracket
    → (d : PlainData) (r : List Token) → SpellsUnit text d (t ∷ us) r → (x ≡ d) × (q ≡ r)
empty_only p i h e k d r u = let a = empty_at h k (rw e at u) in (p ∙ ap (λ (y : Span). listed y no_datas) i ∙ sym a.0, a.1)

pub record Listed (text : List ℕ) (d : PlainData) (t : Token) (us r : List Token) : Type 0 where
  pub elements : List PlainData
  pub close : Token
  pub is : d ≡ listed (span_of t close) (datas_of elements)
  pub spelled : SpellsItems text elements us (close ∷ r)
  pub closes : close.kind ≡ RightBracket

listed_in : {text : List ℕ} {us r : List Token} {t : Token} {d : PlainData} → t.kind ≡ LeftBracket → (Begins RightBracket us → ⊥) → SpellsUnit text d (t ∷ us) r → Listed text d t us r
listed_in h n (unit_name k) = absurd cc
listed_in h n (unit_numeral k) = absurd cc
listed_in h n (unit_true k) = absurd cc
listed_in h n (unit_false k) = absurd cc
listed_in h n (unit_empty k j) = absurd (n j)
listed_in h n (unit_list {v = v} {ds = ds} k b j) = record { elements = ds; close = v; is = refl; spelled = b; closes = j }
listed_in h n (unit_apply k i b j) = absurd cc
listed_in h n (unit_brackets k b j) = absurd cc
listed_in h n (unit_prefix k b) = absurd (not_prefix LeftBracket refl h k)

pub list_fault : {text : List ℕ} {us : List Token} {t : Token} (Goal : Type 0) → t.kind ≡ LeftBracket → (Begins RightBracket us → ⊥)
    → ((ds : List PlainData) (r : List Token) → SpellsItems text ds us r → Closed r → Goal) → (d : PlainData) (r : List Token) → SpellsUnit text d (t ∷ us) r → Goal
list_fault Goal h n each d r u = let a = listed_in h n u in each a.elements (a.close ∷ r) a.spelled (closed_bracket a.close r a.closes)

pub list_unclosed : {text : List ℕ} {us ws : List Token} {t : Token} {ds : List PlainData} → t.kind ≡ LeftBracket → (Begins RightBracket us → ⊥) → OnlyItems text ds us ws
    → (Begins RightBracket ws → ⊥) → (d : PlainData) (r : List Token) → SpellsUnit text d (t ∷ us) r → ⊥
list_unclosed h n only m d r u =
    let a = listed_in h n u in
    m (subst (Begins RightBracket) (sym (only a.elements (a.close ∷ r) a.spelled (closed_bracket a.close r a.closes)).1) a.closes)

pub list_only : {text : List ℕ} {us ws q : List Token} {t v : Token} {at : Span} {x : PlainData} {ds : List PlainData} → x ≡ listed at (datas_of ds) → at ≡ span_of t v → t.kind ≡ LeftBracket
    → (Begins RightBracket us → ⊥) → OnlyItems text ds us ws → ws ≡ v ∷ q → (d : PlainData) (r : List Token) → SpellsUnit text d (t ∷ us) r → (x ≡ d) × (q ≡ r)
list_only {q = q} {t = t} {v = v} {ds = ds} p i h n only f d r u =
    let a = listed_in h n u in
    let same = only a.elements (a.close ∷ r) a.spelled (closed_bracket a.close r a.closes) in
    let both : v ∷ q ≡ a.close ∷ r = sym f ∙ same.1 in (
      p ∙ ap (λ (y : Span). listed y (datas_of ds)) i ∙ ap (λ (y : Token). listed (span_of t y) (datas_of ds)) (heads both)
          ∙ ap (λ (y : List PlainData). listed (span_of t a.close) (datas_of y)) same.0 ∙ sym a.is,
      tails both,
    )

-- Expressions in brackets.
pub by_brackets : {text : List ℕ} {us ws r : List Token} {t v : Token} {at : Span} {x d : PlainData} → x ≡ brackets at d → at ≡ span_of t v → t.kind ≡ LeftParen
    → SpellsData text d us ws → ws ≡ v ∷ r → v.kind ≡ RightParen → SpellsUnit text x (t ∷ us) r
by_brackets p i h a e k = rw (p, i) (unit_brackets h (rw e at a) k)

pub record Bracketed (text : List ℕ) (d : PlainData) (t : Token) (us r : List Token) : Type 0 where
  pub inner : PlainData
  pub close : Token
  pub is : d ≡ brackets (span_of t close) inner
  pub spelled : SpellsData text inner us (close ∷ r)
  pub closes : close.kind ≡ RightParen

bracketed_in : {text : List ℕ} {us r : List Token} {t : Token} {d : PlainData} → t.kind ≡ LeftParen → SpellsUnit text d (t ∷ us) r → Bracketed text d t us r
bracketed_in h (unit_name k) = absurd cc
bracketed_in h (unit_numeral k) = absurd cc
bracketed_in h (unit_true k) = absurd cc
bracketed_in h (unit_false k) = absurd cc
bracketed_in h (unit_empty k j) = absurd cc
bracketed_in h (unit_list k b j) = absurd cc
bracketed_in h (unit_apply k i b j) = absurd cc
bracketed_in h (unit_brackets {v = v} {d = d} k b j) = record { inner = d; close = v; is = refl; spelled = b; closes = j }
bracketed_in h (unit_prefix k b) = absurd (not_prefix LeftParen refl h k)

pub brackets_fault : {text : List ℕ} {us : List Token} {t : Token} (Goal : Type 0) → t.kind ≡ LeftParen → ((d : PlainData) (r : List Token) → SpellsData text d us r → Stops 11 r → Goal)
    → (d : PlainData) (r : List Token) → SpellsUnit text d (t ∷ us) r → Goal
brackets_fault Goal h each d r u = let a = bracketed_in h u in each a.inner (a.close ∷ r) a.spelled (closed_paren a.close r a.closes).stops

pub brackets_unclosed : {text : List ℕ} {us ws : List Token} {t : Token} {x : PlainData} → t.kind ≡ LeftParen → OnlyData text x us ws → (Begins RightParen ws → ⊥)
    → (d : PlainData) (r : List Token) → SpellsUnit text d (t ∷ us) r → ⊥
brackets_unclosed h only n d r u =
    let a = bracketed_in h u in
    n (subst (Begins RightParen) (sym (only a.inner (a.close ∷ r) a.spelled (closed_paren a.close r a.closes).stops).1) a.closes)

pub brackets_only : {text : List ℕ} {us ws q : List Token} {t v : Token} {at : Span} {x y : PlainData} → x ≡ brackets at y → at ≡ span_of t v → t.kind ≡ LeftParen
    → OnlyData text y us ws → ws ≡ v ∷ q → (d : PlainData) (r : List Token) → SpellsUnit text d (t ∷ us) r → (x ≡ d) × (q ≡ r)
brackets_only {q = q} {t = t} {v = v} {y = y} p i h only f d r u =
    let a = bracketed_in h u in
    let same = only a.inner (a.close ∷ r) a.spelled (closed_paren a.close r a.closes).stops in
    let both : v ∷ q ≡ a.close ∷ r = sym f ∙ same.1 in
    (p ∙ ap (λ (z : Span). brackets z y) i ∙ ap (λ (z : Token). brackets (span_of t z) y) (heads both) ∙ ap (λ (z : PlainData). brackets (span_of t a.close) z) same.0 ∙ sym a.is, tails both)

-- Expressions with a prefix sign.
pub by_prefix : {text : List ℕ} {us r : List Token} {t : Token} {sign : PrefixSign} {at here : Span} {x d : PlainData} → x ≡ prefix at sign d → at ≡ joined here (data_span d) → here ≡ span_of t t
    → prefix_of t.kind ≡ Some sign → SpellsUnit text d us r → SpellsUnit text x (t ∷ us) r
by_prefix p i j h a = rw (p, i, j) (unit_prefix h a)

pub record Prefixed (text : List ℕ) (d : PlainData) (t : Token) (us r : List Token) : Type 0 where
  pub sign : PrefixSign
  pub inner : PlainData
  pub is : d ≡ prefix (joined (span_of t t) (data_span inner)) sign inner
  pub is_sign : prefix_of t.kind ≡ Some sign
  pub spelled : SpellsUnit text inner us r

prefixed_in : {text : List ℕ} {us r : List Token} {t : Token} {sign : PrefixSign} {d : PlainData} → prefix_of t.kind ≡ Some sign → SpellsUnit text d (t ∷ us) r → Prefixed text d t us r
prefixed_in h (unit_name k) = absurd (not_prefix Identifier refl k h)
prefixed_in h (unit_numeral k) = absurd (not_prefix Numeral refl k h)
prefixed_in h (unit_true k) = absurd (not_prefix TrueWord refl k h)
prefixed_in h (unit_false k) = absurd (not_prefix FalseWord refl k h)
prefixed_in h (unit_empty k j) = absurd (not_prefix LeftBracket refl k h)
prefixed_in h (unit_list k b j) = absurd (not_prefix LeftBracket refl k h)
prefixed_in h (unit_apply k i b j) = absurd (not_prefix Identifier refl k h)
prefixed_in h (unit_brackets k b j) = absurd (not_prefix LeftParen refl k h)
prefixed_in h (unit_prefix {sign = sign} {d = d} k b) = record { sign = sign; inner = d; is = refl; is_sign = k; spelled = b }

pub prefix_fault : {text : List ℕ} {us : List Token} {t : Token} {sign : PrefixSign} (Goal : Type 0) → prefix_of t.kind ≡ Some sign
    → ((d : PlainData) (r : List Token) → SpellsUnit text d us r → Stops 0 r → Goal) → (d : PlainData) (r : List Token) → SpellsUnit text d (t ∷ us) r → Stops 0 r → Goal
prefix_fault Goal h each d r u s = let a = prefixed_in h u in each a.inner r a.spelled s

pub prefix_only : {text : List ℕ} {us q : List Token} {t : Token} {sign : PrefixSign} {at here : Span} {x y : PlainData} → x ≡ prefix at sign y → at ≡ joined here (data_span y) → here ≡ span_of t t
    → prefix_of t.kind ≡ Some sign → OnlyUnit text y us q → (d : PlainData) (r : List Token) → SpellsUnit text d (t ∷ us) r → Stops 0 r → (x ≡ d) × (q ≡ r)
prefix_only {t = t} {sign = sign} {y = y} p i j h only d r u s =
    let a = prefixed_in h u in
    let same = only a.inner r a.spelled s in (
      p ∙ ap (λ (z : Span). prefix z sign y) (i ∙ ap (λ (z : Span). joined z (data_span y)) j) ∙ ap (λ (z : PrefixSign). prefix (joined (span_of t t) (data_span y)) z y) (same_sign h a.is_sign)
          ∙ ap (λ (z : PlainData). prefix (joined (span_of t t) (data_span z)) a.sign z) same.0 ∙ sym a.is,
      same.1,
    )

-- No other token begins an expression.
begun : {text : List ℕ} {us r : List Token} {t : Token} {d : PlainData} → prefix_of t.kind ≡ None → (t.kind ≡ Identifier → ⊥) → (t.kind ≡ Numeral → ⊥) → (t.kind ≡ TrueWord → ⊥) → (t.kind ≡ FalseWord → ⊥)
    → (t.kind ≡ LeftBracket → ⊥) → (t.kind ≡ LeftParen → ⊥) → SpellsUnit text d (t ∷ us) r → ⊥
begun p a b c d e f (unit_name k) = a k
begun p a b c d e f (unit_numeral k) = b k
begun p a b c d e f (unit_true k) = c k
begun p a b c d e f (unit_false k) = d k
begun p a b c d e f (unit_empty k j) = e k
begun p a b c d e f (unit_list k x j) = e k
begun p a b c d e f (unit_apply k i x j) = a k
begun p a b c d e f (unit_brackets k x j) = f k
begun p a b c d e f (unit_prefix k x) = cc

pub no_unit : {text : List ℕ} {ts us : List Token} {t : Token} → ts ≡ t ∷ us → prefix_of t.kind ≡ None → (t.kind ≡ Identifier → ⊥) → (t.kind ≡ Numeral → ⊥) → (t.kind ≡ TrueWord → ⊥) → (t.kind ≡ FalseWord → ⊥)
    → (t.kind ≡ LeftBracket → ⊥) → (t.kind ≡ LeftParen → ⊥) → (d : PlainData) (r : List Token) → SpellsUnit text d ts r → ⊥
no_unit i p a b c d e f x r u = begun p a b c d e f (rw i at u)
