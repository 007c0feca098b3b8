-- Each rule of constructors, as the code comes to it: first what is spelled, then what a derivation must be.
use Rattle.std.proofs.Common.{◌≡◌, ℕ, ◌<◌, List, [], ◌∷◌, Option, None, Some, length, Result, Ok, Err, IfOk, Bor, refl, ap, sym, ◌∙◌, subst, arith}
use Rattle.mcrl2_lexer.specs.declared.kind.Kind.TheVariants.{Identifier, Colon, Comma, LeftParen, RightParen, Question}
use Rattle.mcrl2_lexer.specs.declared.token.Token.{Token}
use Rattle.mcrl2_syntax.specs.declared.word.Span.{Span}
use Rattle.mcrl2_syntax.specs.Words.{PlainWord, Begins, span_of, joined}
use Rattle.mcrl2_syntax.specs.SortTrees.{PlainSort, plain_sort, sort_span}
use Rattle.mcrl2_syntax.specs.Declarations.{PlainField, PlainConstructor}
use Rattle.mcrl2_syntax.specs.SpelledWords.{token_word, SpellsList}
use Rattle.mcrl2_syntax.specs.SpelledSorts.{SpellsSort, spells_bool, spells_pos, spells_nat, spells_int, spells_list, spells_named_sort, spells_brackets_sort}
use Rattle.mcrl2_syntax.specs.SpelledDeclarations.{bare_field, named_field, SpellsField, field_bare, field_named, SpellsFields, no_fields, some_fields, SpellsRecogniser, no_recogniser, a_recogniser, constructor_from, SpellsConstructor, a_constructor}
use Rattle.mcrl2_syntax.proofs.Lists.{heads, tails, moved}
use Rattle.mcrl2_syntax.proofs.DeclarationsOnce.{name_ends}
use Rattle.mcrl2_syntax.specs.declared.sort_tree.SortTree.{SortTree}
use Rattle.mcrl2_parser.specs.declared.words.Fault.{Fault}
use Rattle.mcrl2_parser.specs.DeclarationParts.{BeginsNamed}

-- a sort takes a token at least
pub sort_shorter : {text : List ℕ} {s : PlainSort} {ts r : List Token} → SpellsSort text s ts r → length r < length ts
sort_shorter (spells_bool h) = omega arith
sort_shorter (spells_pos h) = omega arith
sort_shorter (spells_nat h) = omega arith
sort_shorter (spells_int h) = omega arith
sort_shorter (spells_list h i a j) = omega (arith, sort_shorter a)
sort_shorter (spells_named_sort h) = omega arith
sort_shorter (spells_brackets_sort h a j) = omega (arith, sort_shorter a)

pub shortened : (text : List ℕ) (ts : List Token) (result : Result (SortTree × Bor (List Token)) Fault) → IfOk result (λ x. SpellsSort text (plain_sort x.0) ts x.1.now) → IfOk result (λ x. length x.1.now < length ts)
shortened text ts (Ok x) found = sort_shorter found
shortened text ts (Err e) found = tt

pub by_bare : {text : List ℕ} {f : PlainField} {at : Span} {s : PlainSort} {ts r : List Token} → f ≡ record { span = at; name = None; sort = s } → at ≡ sort_span s → SpellsSort text s ts r → SpellsField text f ts r
by_bare p i a = rw (p, i) (field_bare a)

pub bare_same : {f g : PlainField} {at : Span} {s o : PlainSort} → f ≡ record { span = at; name = None; sort = s } → at ≡ sort_span s → s ≡ o → g ≡ bare_field o → f ≡ g
bare_same p i e q = rw (p, i, e, q) refl

pub named_made : (text : List ℕ) (t : Token) {f : PlainField} {at here : Span} {w : PlainWord} {s : PlainSort} → f ≡ record { span = at; name = Some w; sort = s } → at ≡ joined w.span here → here ≡ sort_span s
    → w ≡ token_word text t → f ≡ named_field (token_word text t) s
named_made text t p i j e = rw (p, i, j, e) refl

pub by_named_field : {text : List ℕ} {f : PlainField} {s : PlainSort} (t : Token) {ts us r : List Token} → f ≡ named_field (token_word text t) s → BeginsNamed Colon t ts us → SpellsSort text s us r → SpellsField text f ts r
by_named_field t p b a = rw (p, b.is) (field_named b.identifier b.is_kind a)

pub named_same : (text : List ℕ) (t : Token) {f g : PlainField} {s o : PlainSort} → f ≡ named_field (token_word text t) s → s ≡ o → g ≡ named_field (token_word text t) o → f ≡ g
named_same text t p e q = p ∙ ap (λ (x : PlainSort). named_field (token_word text t) x) e ∙ sym q

pub named_shorter : {t : Token} {ts us : List Token} (r : List Token) → BeginsNamed Colon t ts us → length r < length us → length r < length ts
named_shorter r b less = rw b.is (omega (arith, less))

-- without a name in front it is a sort
pub bare_case : {Goal : Type 0} {text : List ℕ} {f : PlainField} {ts r : List Token} → ((name : Token) (us : List Token) → BeginsNamed Colon name ts us → ⊥) → SpellsField text f ts r
    → ((s : PlainSort) → f ≡ bare_field s → SpellsSort text s ts r → Goal) → Goal
bare_case none (field_bare {s = s} a) each = each s refl a
bare_case none (field_named {t = t} {c = c} {ts = ts} h i a) each = absurd (none t ts (record { sign = c; is = refl; identifier = h; is_kind = i }))

named_at : {Goal : Type 0} {text : List ℕ} {f : PlainField} {t c : Token} {us r : List Token} → t.kind ≡ Identifier → c.kind ≡ Colon → SpellsField text f (t ∷ c ∷ us) r
    → (Begins Colon r → ⊥) → ((s : PlainSort) → f ≡ named_field (token_word text t) s → SpellsSort text s us r → Goal) → Goal
named_at k l (field_bare a) stops each = absurd (stops (moved Colon (name_ends a k) l))
named_at k l (field_named {s = s} h i a) stops each = each s refl a

-- with a name in front it is the name's sort
pub named_case : {Goal : Type 0} {text : List ℕ} {f : PlainField} {t : Token} {ts us r : List Token} → BeginsNamed Colon t ts us → SpellsField text f ts r
    → (Begins Colon r → ⊥) → ((s : PlainSort) → f ≡ named_field (token_word text t) s → SpellsSort text s us r → Goal) → Goal
named_case {text = text} {f = f} {r = r} b d stops each = named_at b.identifier b.is_kind (subst (λ (x : List Token). SpellsField text f x r) b.is d) stops each

pub by_fields : {text : List ℕ} {t v : Token} {f : List PlainField} {ts us vs r : List Token} {u : Token} → ts ≡ u ∷ us → u.kind ≡ LeftParen → SpellsList (SpellsField text) Comma f us vs → vs ≡ v ∷ r → v.kind ≡ RightParen
    → SpellsFields text t f v ts r
by_fields e h a i j = rw e (some_fields h (rw i at a) j)

-- without a bracket there are no arguments
pub no_fields_case : {text : List ℕ} {t v : Token} {f : List PlainField} {ts r : List Token} → (Begins LeftParen ts → ⊥) → SpellsFields text t f v ts r → ([] ≡ f) × (t ≡ v) × (ts ≡ r)
no_fields_case none no_fields = (refl, refl, refl)
no_fields_case none (some_fields h a i) = absurd (none h)

fields_at : {Goal : Type 0} {text : List ℕ} {t u v : Token} {f : List PlainField} {us r : List Token} → u.kind ≡ LeftParen → SpellsFields text t f v (u ∷ us) r → (Begins LeftParen r → ⊥)
    → (SpellsList (SpellsField text) Comma f us (v ∷ r) → v.kind ≡ RightParen → Goal) → Goal
fields_at k no_fields stops each = absurd (stops k)
fields_at k (some_fields h a i) stops each = each a i

-- behind a bracket there are some
pub fields_case : {Goal : Type 0} {text : List ℕ} {t u v : Token} {f : List PlainField} {ts us r : List Token} → ts ≡ u ∷ us → u.kind ≡ LeftParen → SpellsFields text t f v ts r → (Begins LeftParen r → ⊥)
    → (SpellsList (SpellsField text) Comma f us (v ∷ r) → v.kind ≡ RightParen → Goal) → Goal
fields_case {text = text} {t = t} {v = v} {f = f} {r = r} e k d stops each = fields_at k (subst (λ (x : List Token). SpellsFields text t f v x r) e d) stops each

pub by_recogniser : {text : List ℕ} {t q v : Token} {o : Option PlainWord} {w : PlainWord} {ts us r : List Token} → o ≡ Some w → w ≡ token_word text v → ts ≡ q ∷ us → q.kind ≡ Question → us ≡ v ∷ r → v.kind ≡ Identifier
    → SpellsRecogniser text t o v ts r
by_recogniser p i e h f j = rw (p, i, e, f) (a_recogniser h j)

-- without a question mark there is no recogniser
pub no_recogniser_case : {text : List ℕ} {t v : Token} {o : Option PlainWord} {ts r : List Token} → (Begins Question ts → ⊥) → SpellsRecogniser text t o v ts r → (None ≡ o) × (t ≡ v) × (ts ≡ r)
no_recogniser_case none no_recogniser = (refl, refl, refl)
no_recogniser_case none (a_recogniser h i) = absurd (none h)

recogniser_at : {Goal : Type 0} {text : List ℕ} {t q v : Token} {o : Option PlainWord} {us r : List Token} → q.kind ≡ Question → SpellsRecogniser text t o v (q ∷ us) r → (Begins Question r → ⊥)
    → (us ≡ v ∷ r → v.kind ≡ Identifier → Some (token_word text v) ≡ o → Goal) → Goal
recogniser_at k no_recogniser stops each = absurd (stops k)
recogniser_at k (a_recogniser h i) stops each = each refl i refl

-- behind one there is
pub recogniser_case : {Goal : Type 0} {text : List ℕ} {t q v : Token} {o : Option PlainWord} {ts us r : List Token} → ts ≡ q ∷ us → q.kind ≡ Question → SpellsRecogniser text t o v ts r
    → (Begins Question r → ⊥) → (us ≡ v ∷ r → v.kind ≡ Identifier → Some (token_word text v) ≡ o → Goal) → Goal
recogniser_case {text = text} {t = t} {v = v} {o = o} {r = r} e k d stops each = recogniser_at k (subst (λ (x : List Token). SpellsRecogniser text t o v x r) e d) stops each

pub recogniser_same : (text : List ℕ) {w : PlainWord} {t v : Token} {o : Option PlainWord} {ts q r : List Token} → w ≡ token_word text t → ts ≡ t ∷ q → ts ≡ v ∷ r → Some (token_word text v) ≡ o → (Some w ≡ o) × (t ≡ v) × (q ≡ r)
recogniser_same text i e f p =
    let h = heads (sym e ∙ f) in (ap Some i ∙ ap (λ (x : Token). Some (token_word text x)) h ∙ p, h, tails (sym e ∙ f))

pub fields_same : {f g : List PlainField} {t v : Token} {vs q r : List Token} → f ≡ g → vs ≡ t ∷ q → vs ≡ v ∷ r → (f ≡ g) × (t ≡ v) × (q ≡ r)
fields_same p e f = (p, heads (sym e ∙ f), tails (sym e ∙ f))

pub by_constructor : {text : List ℕ} {c : PlainConstructor} {at : Span} {w : PlainWord} {t u v : Token} {f : List PlainField} {o : Option PlainWord} {ts us vs r : List Token}
    → c ≡ record { span = at; name = w; fields = f; recogniser = o } → at ≡ span_of t v → w ≡ token_word text t → ts ≡ t ∷ us → t.kind ≡ Identifier
    → SpellsFields text t f u us vs → SpellsRecogniser text u o v vs r → SpellsConstructor text c ts r
by_constructor p i j e h a b = rw (p, i, j, e) (a_constructor h a b)

constructor_at : {Goal : Type 0} {text : List ℕ} {c : PlainConstructor} {t : Token} {us r : List Token} → SpellsConstructor text c (t ∷ us) r
    → ((u v : Token) (f : List PlainField) (o : Option PlainWord) (vs : List Token) → SpellsFields text t f u us vs → SpellsRecogniser text u o v vs r → constructor_from text t f o v ≡ c → Goal) → Goal
constructor_at (a_constructor {u = u} {v = v} {fields = f} {recogniser = o} {us = vs} h a b) each = each u v f o vs a b refl

-- a constructor that begins with that token
pub constructor_case : {Goal : Type 0} {text : List ℕ} {c : PlainConstructor} {t : Token} {ts us r : List Token} → ts ≡ t ∷ us → SpellsConstructor text c ts r
    → ((u v : Token) (f : List PlainField) (o : Option PlainWord) (vs : List Token) → SpellsFields text t f u us vs → SpellsRecogniser text u o v vs r → constructor_from text t f o v ≡ c → Goal) → Goal
constructor_case {text = text} {c = c} {r = r} e d each = constructor_at (subst (λ (x : List Token). SpellsConstructor text c x r) e d) each

-- the parts of a constructor are those that were read
pub constructor_same : (text : List ℕ) (t : Token) {c d : PlainConstructor} {at : Span} {w : PlainWord} {v x : Token} {f g : List PlainField} {o p : Option PlainWord}
    → c ≡ record { span = at; name = w; fields = f; recogniser = o } → at ≡ span_of t v → w ≡ token_word text t → f ≡ g → o ≡ p → v ≡ x → constructor_from text t g p x ≡ d → c ≡ d
constructor_same text t {v = v} {x = x} {f = f} {g = g} {o = o} {p = p} made i j k l m e =
    rw (made, i, j) (ap (λ (y : List PlainField). constructor_from text t y o v) k ∙ ap (λ (y : Option PlainWord). constructor_from text t g y v) l ∙ ap (λ (y : Token). constructor_from text t g p y) m ∙ e)

-- a constructor begins with its name
pub constructor_begins : {text : List ℕ} {c : PlainConstructor} {ts r : List Token} → SpellsConstructor text c ts r → Begins Identifier ts
constructor_begins (a_constructor h a b) = h
