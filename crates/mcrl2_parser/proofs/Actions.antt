-- Actions, as the code comes to them: what it made, and each list of tokens, by an equation.
use Rattle.std.proofs.Common.{◌≡◌, ℕ, List, [], ◌∷◌, map, refl, sym, subst, ◌∙◌}
use Rattle.mcrl2_lexer.specs.declared.kind.Kind.TheVariants.{Identifier, Tau, LeftParen, RightParen}
use Rattle.mcrl2_lexer.specs.declared.token.Token.{Token}
use Rattle.mcrl2_syntax.specs.declared.word.Span.{Span}
use Rattle.mcrl2_syntax.specs.declared.data_tree.DataTree.{DataTree}
use Rattle.mcrl2_syntax.specs.Words.{PlainWord, Begins, span_of, spanned}
use Rattle.mcrl2_syntax.specs.DataTrees.{PlainData, plain_data}
use Rattle.mcrl2_syntax.specs.ProcessParts.{PlainAction, tau_action, named_action, action_span, PlainLabel}
use Rattle.mcrl2_syntax.specs.SpelledWords.{token_word}
use Rattle.mcrl2_syntax.specs.SpelledData.{SpellsItems}
use Rattle.mcrl2_syntax.specs.SpelledLabels.{SpellsAction, action_tau, action_name, action_applied, SpellsActions, label_from, SpellsLabel, label_actions}
use Rattle.mcrl2_syntax.proofs.Lists.{heads, tails}
use Rattle.mcrl2_syntax.proofs.LabelsOnce.{NoParen}

pub by_tau : {text : List ℕ} {ts r : List Token} {t : Token} {a : PlainAction} {at : Span} → a ≡ tau_action at → at ≡ span_of t t → ts ≡ t ∷ r → t.kind ≡ Tau → SpellsAction text a ts r
by_tau p i e h = rw (p, i, e) (action_tau h)

-- from the first byte of a name up to a place
abbrev pub up_to : PlainWord → ℕ → Span
up_to name end = record { start = name.span.start; end = end }

pub by_bare : {text : List ℕ} {ts r : List Token} {t : Token} {a : PlainAction} {w : PlainWord} {ds : List DataTree} → a ≡ named_action (up_to w t.end) w (map plain_data ds) → ds ≡ []
    → w ≡ token_word text t → ts ≡ t ∷ r → t.kind ≡ Identifier → SpellsAction text a ts r
by_bare p n w e h = rw (p, n, w, e) (action_name h)

pub by_applied : {text : List ℕ} {ts us vs ws r : List Token} {t u v : Token} {a : PlainAction} {w : PlainWord} {ds : List PlainData} → a ≡ named_action (up_to w v.end) w ds
    → w ≡ token_word text t → ts ≡ t ∷ us → t.kind ≡ Identifier → us ≡ u ∷ vs → u.kind ≡ LeftParen → SpellsItems text ds vs ws → ws ≡ v ∷ r → v.kind ≡ RightParen → SpellsAction text a ts r
by_applied {text = text} {vs = vs} {ds = ds} p w e h f k d g l = rw (p, w, e, f) (action_applied h k (subst (λ (x : List Token). SpellsItems text ds vs x) g d) l)

pub no_action : {text : List ℕ} {ts r : List Token} {a : PlainAction} → (Begins Tau ts → ⊥) → (Begins Identifier ts → ⊥) → SpellsAction text a ts r → ⊥
no_action tau name (action_tau h) = tau h
no_action tau name (action_name h) = name h
no_action tau name (action_applied h i d j) = name h

tau_of : {text : List ℕ} {us r : List Token} {t : Token} {a : PlainAction} → t.kind ≡ Tau → SpellsAction text a (t ∷ us) r → (tau_action (span_of t t) ≡ a) × (us ≡ r)
tau_of k (action_tau h) = (refl, refl)
tau_of k (action_name h) = absurd cc
tau_of k (action_applied h i d j) = absurd cc

-- `tau` is read in one way, whatever stands behind it
pub tau_only : {text : List ℕ} {ts us r : List Token} {t : Token} {a b : PlainAction} {at : Span} → a ≡ tau_action at → at ≡ span_of t t → ts ≡ t ∷ us → t.kind ≡ Tau
    → SpellsAction text b ts r → (a ≡ b) × (us ≡ r)
tau_only {text = text} {r = r} {b = b} p i e h d = rw (p, i) (tau_of h (subst (λ (x : List Token). SpellsAction text b x r) e d))

-- the arguments of a name, and the bracket behind them
pub record Arguments (text : List ℕ) (a : PlainAction) (name : Token) (ts r : List Token) : Type 0 where
  pub arguments : List PlainData
  pub close : Token
  pub read : SpellsItems text arguments ts (close ∷ r)
  pub is_close : close.kind ≡ RightParen
  pub whole : named_action (span_of name close) (token_word text name) arguments ≡ a

arguments_of : {text : List ℕ} {vs r : List Token} {t u : Token} {a : PlainAction} → t.kind ≡ Identifier → u.kind ≡ LeftParen → NoParen r → SpellsAction text a (t ∷ u ∷ vs) r → Arguments text a t vs r
arguments_of k l none (action_tau h) = absurd cc
arguments_of k l none (action_name h) = absurd (none l)
arguments_of k l none (action_applied {v = v} {ds = ds} h i d j) = record { arguments = ds; close = v; read = d; is_close = j; whole = refl }

pub arguments : {text : List ℕ} {ts us vs r : List Token} {t u : Token} {a : PlainAction} → ts ≡ t ∷ us → t.kind ≡ Identifier → us ≡ u ∷ vs → u.kind ≡ LeftParen → NoParen r
    → SpellsAction text a ts r → Arguments text a t vs r
arguments {r = r} {a = a} e h f k none d = arguments_of h k none (rw (e, f) at d)

pub applied_only : {text : List ℕ} {vs ws q r : List Token} {t v : Token} {a b : PlainAction} {w : PlainWord} {ds : List PlainData} → a ≡ named_action (up_to w v.end) w ds
    → w ≡ token_word text t → ws ≡ v ∷ q → (g : Arguments text b t vs r) → (ds ≡ g.arguments) × (ws ≡ g.close ∷ r) → (a ≡ b) × (q ≡ r)
applied_only p w f g same = let signs = sym f ∙ same.1 in (rw (p, w, same.0, heads signs) g.whole, tails signs)

pub by_label : {text : List ℕ} {ts r : List Token} {l : PlainLabel} {actions : List PlainAction} {at : Span} → l ≡ record { span = at; actions = actions } → at ≡ spanned action_span actions
    → SpellsActions text actions ts r → SpellsLabel text l ts r
by_label p i d = rw (p, i) (label_actions d)

-- the actions of a label
pub record Labelled (text : List ℕ) (l : PlainLabel) (ts r : List Token) : Type 0 where
  pub actions : List PlainAction
  pub read : SpellsActions text actions ts r
  pub whole : label_from actions ≡ l

pub labelled : {text : List ℕ} {ts r : List Token} {l : PlainLabel} → SpellsLabel text l ts r → Labelled text l ts r
labelled (label_actions {actions = actions} d) = record { actions = actions; read = d; whole = refl }

pub label_only : {text : List ℕ} {ts q r : List Token} {l m : PlainLabel} {actions : List PlainAction} {at : Span} → l ≡ record { span = at; actions = actions } → at ≡ spanned action_span actions
    → (g : Labelled text m ts r) → (actions ≡ g.actions) × (q ≡ r) → (l ≡ m) × (q ≡ r)
label_only p i g same = (rw (p, i, same.0) g.whole, same.1)
