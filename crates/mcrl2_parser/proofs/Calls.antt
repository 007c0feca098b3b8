-- Calls with assignments, as the code comes to them: what it made, and each list of tokens, by an equation.
use Rattle.std.proofs.Common.{◌≡◌, ℕ, List, [], ◌∷◌, map, refl, subst}
use Rattle.mcrl2_lexer.specs.declared.kind.Kind.TheVariants.{Identifier, Comma, Equals, LeftParen, RightParen}
use Rattle.mcrl2_lexer.specs.declared.token.Token.{Token}
use Rattle.mcrl2_syntax.specs.declared.word.Span.{Span}
use Rattle.mcrl2_syntax.specs.declared.process_tree.Assignment.{Assignment}
use Rattle.mcrl2_syntax.specs.Words.{PlainWord, Begins, span_of, joined}
use Rattle.mcrl2_syntax.specs.DataTrees.{PlainData, data_span}
use Rattle.mcrl2_syntax.specs.ProcessParts.{PlainAssignment, assignment_of}
use Rattle.mcrl2_syntax.specs.ProcessTrees.{PlainProcess, call}
use Rattle.mcrl2_syntax.specs.Follow.{Closed}
use Rattle.mcrl2_syntax.specs.SpelledWords.{token_word, SpellsList}
use Rattle.mcrl2_syntax.specs.SpelledData.{SpellsData}
use Rattle.mcrl2_syntax.specs.SpelledLabels.{SpellsAssignment, assignment, SpellsCall, call_empty, call_assigns}
use Rattle.mcrl2_syntax.proofs.DataOnce.{closed_paren}

abbrev assigned_to : List ℕ → Token → PlainData → PlainAssignment
assigned_to text t d = record { span = joined (span_of t t) (data_span d); name = token_word text t; value = d }

pub by_assignment : {text : List ℕ} {ts us vs r : List Token} {t e : Token} {x : PlainAssignment} {at a b : Span} {w : PlainWord} {d : PlainData} → x ≡ record { span = at; name = w; value = d }
    → at ≡ joined a b → a ≡ span_of t t → b ≡ data_span d → w ≡ token_word text t → ts ≡ t ∷ us → t.kind ≡ Identifier → us ≡ e ∷ vs → e.kind ≡ Equals → SpellsData text d vs r → SpellsAssignment text x ts r
by_assignment p i j k w e h f l d = rw (p, i, j, k, w, e, f) (assignment h l d)

pub no_assignment : {text : List ℕ} {ts r : List Token} {x : PlainAssignment} → (Begins Identifier ts → ⊥) → SpellsAssignment text x ts r → ⊥
no_assignment none (assignment h i d) = none h

no_equals_of : {text : List ℕ} {us r : List Token} {t : Token} {x : PlainAssignment} → (Begins Equals us → ⊥) → SpellsAssignment text x (t ∷ us) r → ⊥
no_equals_of none (assignment h i d) = none i

pub no_equals : {text : List ℕ} {ts us r : List Token} {t : Token} {x : PlainAssignment} → ts ≡ t ∷ us → (Begins Equals us → ⊥) → SpellsAssignment text x ts r → ⊥
no_equals e none d = no_equals_of none (rw e at d)

-- the value of an assignment
pub record Assigned (text : List ℕ) (x : PlainAssignment) (name : Token) (ts r : List Token) : Type 0 where
  pub value : PlainData
  pub read : SpellsData text value ts r
  pub whole : assigned_to text name value ≡ x

assigned_of : {text : List ℕ} {vs r : List Token} {t e : Token} {x : PlainAssignment} → SpellsAssignment text x (t ∷ e ∷ vs) r → Assigned text x t vs r
assigned_of (assignment {d = d} h i a) = record { value = d; read = a; whole = refl }

pub assigned : {text : List ℕ} {ts us vs r : List Token} {t e : Token} {x : PlainAssignment} → ts ≡ t ∷ us → us ≡ e ∷ vs → SpellsAssignment text x ts r → Assigned text x t vs r
assigned e f d = assigned_of (rw (e, f) at d)

pub assigned_only : {text : List ℕ} {vs q r : List Token} {t : Token} {x y : PlainAssignment} {at a b : Span} {w : PlainWord} {d : PlainData} → x ≡ record { span = at; name = w; value = d }
    → at ≡ joined a b → a ≡ span_of t t → b ≡ data_span d → w ≡ token_word text t → (g : Assigned text y t vs r) → (d ≡ g.value) × (q ≡ r) → (x ≡ y) × (q ≡ r)
assigned_only p i j k w g same = (rw (p, i, j, k, w, same.0) g.whole, same.1)

pub by_empty : {text : List ℕ} {ts us vs r : List Token} {t u v : Token} {p : PlainProcess} {at : Span} {w : PlainWord} {xs : List Assignment} → p ≡ call at w (map assignment_of xs) → xs ≡ []
    → at ≡ span_of t v → w ≡ token_word text t → ts ≡ t ∷ us → t.kind ≡ Identifier → us ≡ u ∷ vs → u.kind ≡ LeftParen → vs ≡ v ∷ r → v.kind ≡ RightParen → SpellsCall text p ts r
by_empty p n i w e h f k g l = rw (p, n, i, w, e, f, g) (call_empty h k l)

pub by_assigns : {text : List ℕ} {ts us vs ws r : List Token} {t u v : Token} {p : PlainProcess} {at : Span} {w : PlainWord} {xs : List PlainAssignment} → p ≡ call at w xs → at ≡ span_of t v
    → w ≡ token_word text t → ts ≡ t ∷ us → t.kind ≡ Identifier → us ≡ u ∷ vs → u.kind ≡ LeftParen → SpellsList (SpellsAssignment text) Comma xs vs ws → ws ≡ v ∷ r → v.kind ≡ RightParen → SpellsCall text p ts r
by_assigns {text = text} {vs = vs} {xs = xs} p i w e h f k d g l =
    rw (p, i, w, e, f) (call_assigns h k (subst (λ (x : List Token). SpellsList (SpellsAssignment text) Comma xs vs x) g d) l)

pub no_call : {text : List ℕ} {ts r : List Token} {p : PlainProcess} → (Begins Identifier ts → ⊥) → SpellsCall text p ts r → ⊥
no_call none (call_empty h i j) = none h
no_call none (call_assigns h i d j) = none h

no_paren_of : {text : List ℕ} {us r : List Token} {t : Token} {p : PlainProcess} → (Begins LeftParen us → ⊥) → SpellsCall text p (t ∷ us) r → ⊥
no_paren_of none (call_empty h i j) = none i
no_paren_of none (call_assigns h i d j) = none i

pub no_paren : {text : List ℕ} {ts us r : List Token} {t : Token} {p : PlainProcess} → ts ≡ t ∷ us → (Begins LeftParen us → ⊥) → SpellsCall text p ts r → ⊥
no_paren e none d = no_paren_of none (rw e at d)

-- the assignments of a call, and the bracket behind them
pub record Assigns (text : List ℕ) (ts r : List Token) : Type 0 where
  pub assignments : List PlainAssignment
  pub close : Token
  pub read : SpellsList (SpellsAssignment text) Comma assignments ts (close ∷ r)
  pub is_close : close.kind ≡ RightParen
  pub closed : Closed (close ∷ r)

assigns_of : {text : List ℕ} {vs r : List Token} {t u : Token} {p : PlainProcess} → (Begins RightParen vs → ⊥) → SpellsCall text p (t ∷ u ∷ vs) r → Assigns text vs r
assigns_of none (call_empty h i j) = absurd (none j)
assigns_of {r = r} none (call_assigns {v = v} {xs = xs} h i d j) = record { assignments = xs; close = v; read = d; is_close = j; closed = closed_paren v r j }

pub assigns : {text : List ℕ} {ts us vs r : List Token} {t u : Token} {p : PlainProcess} → ts ≡ t ∷ us → us ≡ u ∷ vs → (Begins RightParen vs → ⊥) → SpellsCall text p ts r → Assigns text vs r
assigns e f none d = assigns_of none (rw (e, f) at d)
