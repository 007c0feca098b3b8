-- What the exits of the readers of steps and atoms stand on.
use Rattle.std.proofs.Common.{◌≡◌, ◌⊎◌, inl, inr, ℕ, List, [], ◌∷◌, refl, ap, sym, ◌∙◌, subst}
use Rattle.mcrl2_lexer.specs.declared.kind.Kind.{Kind}
use Rattle.mcrl2_lexer.specs.declared.kind.Kind.TheVariants.{Identifier, Delta, LeftParen, RightParen, Comma, Equals, Allow, Block, Hide, Rename, Comm}
use Rattle.mcrl2_lexer.specs.declared.token.Token.{Token}
use Rattle.mcrl2_syntax.specs.declared.word.Span.{Span}
use Rattle.mcrl2_syntax.specs.Words.{Begins, span_of}
use Rattle.mcrl2_syntax.specs.DataTrees.{PlainData}
use Rattle.mcrl2_syntax.specs.ProcessParts.{PlainAction}
use Rattle.mcrl2_syntax.specs.ProcessTrees.{PlainProcess, delta, acts, within}
use Rattle.mcrl2_syntax.specs.SpelledWords.{last_item, more_items}
use Rattle.mcrl2_syntax.specs.SpelledData.{SpellsItems, items_last, items_more}
use Rattle.mcrl2_syntax.specs.SpelledLabels.{SpellsAction, action_tau, action_name, action_applied, assignment, SpellsCall, call_empty, call_assigns, Operation, operated, SpellsOperation, spells_allow, spells_block, spells_hide, spells_rename, spells_comm}
use Rattle.mcrl2_syntax.specs.SpelledProcesses.{SpellsAtom, atom_delta, atom_action, atom_call, atom_brackets, atom_operator, SpellsProcess, spells_process}
use Rattle.mcrl2_syntax.specs.Follow.{Ends}
use Rattle.mcrl2_syntax.proofs.Lists.{heads, tails, moved}
use Rattle.mcrl2_syntax.proofs.DataOnce.{closed_paren, stops_comma, items_paren}
use Rattle.mcrl2_syntax.proofs.LabelsOnce.{NoParen, before_equals}
use Rattle.mcrl2_syntax.proofs.ProcessesOnce.{class, is_operator, apart, action_class, call_class, operation_class, ends_shut}
use Rattle.mcrl2_parser.specs.ProcessReading.{BeginsCall, begins_empty, begins_assignment, SpellsStep, step_call, step_action}

-- Where a call begins, no action does.
items_equals : {text : List ℕ} {ds : List PlainData} {t e v : Token} {ts q : List Token} → t.kind ≡ Identifier → e.kind ≡ Equals → SpellsItems text ds (t ∷ e ∷ ts) (v ∷ q) → v.kind ≡ RightParen → ⊥
items_equals {v = v} {q = q} h i (items_last a) k = let e : Equals ≡ RightParen = sym (before_equals a h i (closed_paren v q k).stops) ∙ k in cc
items_equals h i (items_more {v = w} {us = us} a l c) k = let e : Equals ≡ Comma = sym (before_equals a h i (stops_comma 11 w us l)) ∙ l in cc

action_apart : {text : List ℕ} {a : PlainAction} {ts r : List Token} → BeginsCall ts → SpellsAction text a ts r → (Begins LeftParen r → ⊥) → ⊥
action_apart (begins_empty h i j) (action_tau k) n = cc
action_apart (begins_empty h i j) (action_name k) n = n i
action_apart (begins_empty h i j) (action_applied k l a m) n = items_paren a j
action_apart (begins_assignment h i j e) (action_tau k) n = cc
action_apart (begins_assignment h i j e) (action_name k) n = n i
action_apart (begins_assignment h i j e) (action_applied k l a m) n = items_equals j e a m

pub called : {text : List ℕ} {p : PlainProcess} {ts r : List Token} → BeginsCall ts → SpellsStep text p ts r → NoParen r → SpellsCall text p ts r
called b (step_call a) n = a
called b (step_action a) n = absurd (action_apart b a n)

call_begins : {text : List ℕ} {p : PlainProcess} {ts r : List Token} → SpellsCall text p ts r → BeginsCall ts
call_begins (call_empty h i j) = begins_empty h i j
call_begins (call_assigns h i (last_item (assignment k l d)) j) = begins_assignment h i k l
call_begins (call_assigns h i (more_items (assignment k l d) m c) j) = begins_assignment h i k l

-- what is no call is an action
pub record IsActing (text : List ℕ) (p : PlainProcess) (ts r : List Token) : Type 0 where
  pub action : PlainAction
  pub tree : p ≡ acts action
  pub is : SpellsAction text action ts r

pub acting : {text : List ℕ} {p : PlainProcess} {ts r : List Token} → (BeginsCall ts → ⊥) → SpellsStep text p ts r → IsActing text p ts r
acting n (step_call a) = absurd (n (call_begins a))
acting n (step_action {a = x} a) = record { action = x; tree = refl; is = a }

-- the one reading of an action
abbrev pub OnlyAction : List ℕ → PlainAction → List Token → List Token → Type 0
OnlyAction text a ts us = (x : PlainAction) (r : List Token) → SpellsAction text x ts r → NoParen r → (a ≡ x) × (us ≡ r)

pub action_found : {text : List ℕ} {a : PlainAction} {p : PlainProcess} {ts r : List Token} → p ≡ acts a → SpellsAction text a ts r → SpellsStep text p ts r
action_found e a = rw e (step_action a)

pub acting_only : {text : List ℕ} {a : PlainAction} {p q : PlainProcess} {ts us r : List Token} → q ≡ acts a → OnlyAction text a ts us → IsActing text p ts r → NoParen r → (q ≡ p) × (us ≡ r)
acting_only {r = r} e only s n = let same = only s.action r s.is n in (e ∙ ap (λ (x : PlainAction). acts x) same.0 ∙ sym s.tree, same.1)

-- A step is an atom.
pub atom_step : {text : List ℕ} {p : PlainProcess} {ts r : List Token} → SpellsStep text p ts r → SpellsAtom text p ts r
atom_step (step_call a) = atom_call a
atom_step (step_action a) = atom_action a

pub by_delta : {text : List ℕ} {p : PlainProcess} {at : Span} {t : Token} {ts r : List Token} → p ≡ delta at → at ≡ span_of t t → ts ≡ t ∷ r → t.kind ≡ Delta → SpellsAtom text p ts r
by_delta p i e h = rw (p, i, e) (atom_delta h)

bracketed : {text : List ℕ} {p : PlainProcess} {t v : Token} {us r : List Token} → t.kind ≡ LeftParen → SpellsProcess text p us (v ∷ r) → v.kind ≡ RightParen → SpellsAtom text (within (span_of t v) p) (t ∷ us) r
bracketed h (spells_process a) i = atom_brackets h a i

pub by_brackets : {text : List ℕ} {p x : PlainProcess} {at : Span} {t v : Token} {ts us ws r : List Token} → x ≡ within at p → at ≡ span_of t v → ts ≡ t ∷ us → t.kind ≡ LeftParen → SpellsProcess text p us ws → ws ≡ v ∷ r
    → v.kind ≡ RightParen → SpellsAtom text x ts r
by_brackets x i e h a f k = rw (x, i, e) (bracketed h (rw f at a) k)

operator_around : {text : List ℕ} {o : Operation} {p : PlainProcess} {t v : Token} {ts us r : List Token} → SpellsOperation text o (t ∷ ts) us → SpellsProcess text p us (v ∷ r) → v.kind ≡ RightParen
    → SpellsAtom text (operated (span_of t v) o p) (t ∷ ts) r
operator_around o (spells_process a) i = atom_operator o a i

pub by_operator : {text : List ℕ} {o : Operation} {p x : PlainProcess} {at : Span} {t v : Token} {ts vs us ws r : List Token} → x ≡ operated at o p → at ≡ span_of t v → ts ≡ t ∷ vs → SpellsOperation text o ts us
    → SpellsProcess text p us ws → ws ≡ v ∷ r → v.kind ≡ RightParen → SpellsAtom text x ts r
by_operator x i e o a f k = rw (x, i, e) (operator_around (rw e at o) (rw f at a) k)

-- What an atom is, by its first token: the parts of a term in brackets.
pub record IsBracketed (text : List ℕ) (t : Token) (p : PlainProcess) (us r : List Token) : Type 0 where
  pub inner : PlainProcess
  pub close : Token
  pub tree : p ≡ within (span_of t close) inner
  pub is : SpellsProcess text inner us (close ∷ r)
  pub closes : close.kind ≡ RightParen

pub of_brackets : {text : List ℕ} {p : PlainProcess} {t : Token} {ts us r : List Token} → ts ≡ t ∷ us → t.kind ≡ LeftParen → SpellsAtom text p ts r → IsBracketed text t p us r
of_brackets e h a = begun h (rw e at a)
  where
    begun : {text : List ℕ} {p : PlainProcess} {t : Token} {us r : List Token} → t.kind ≡ LeftParen → SpellsAtom text p (t ∷ us) r → IsBracketed text t p us r
    begun h (atom_delta k) = absurd cc
    begun h (atom_action a) = absurd (apart (action_class a) (ap class h) (λ e. cc))
    begun h (atom_call a) = absurd (apart (call_class a) (ap class h) (λ e. cc))
    begun h (atom_brackets {v = v} k a i) = record { inner = _; close = v; tree = refl; is = spells_process a; closes = i }
    begun h (atom_operator o a i) = absurd (apart (operation_class o) (ap class h) (λ e. cc))

-- the parts of a term under an operator
pub record IsOperated (text : List ℕ) (t : Token) (p : PlainProcess) (ts r : List Token) : Type 0 where
  pub operation : Operation
  pub behind : List Token
  pub inner : PlainProcess
  pub close : Token
  pub tree : p ≡ operated (span_of t close) operation inner
  pub operator : SpellsOperation text operation ts behind
  pub is : SpellsProcess text inner behind (close ∷ r)
  pub closes : close.kind ≡ RightParen

pub of_operator : {text : List ℕ} {p : PlainProcess} {t : Token} {ts us r : List Token} → ts ≡ t ∷ us → class t.kind ≡ is_operator → SpellsAtom text p ts r → IsOperated text t p ts r
of_operator e h a = rw e (begun h (rw e at a))
  where
    begun : {text : List ℕ} {p : PlainProcess} {t : Token} {us r : List Token} → class t.kind ≡ is_operator → SpellsAtom text p (t ∷ us) r → IsOperated text t p (t ∷ us) r
    begun h (atom_delta k) = absurd (apart (ap class k) h (λ e. cc))
    begun h (atom_action a) = absurd (apart (action_class a) h (λ e. cc))
    begun h (atom_call a) = absurd (apart (call_class a) h (λ e. cc))
    begun h (atom_brackets k a i) = absurd (apart (ap class k) h (λ e. cc))
    begun h (atom_operator {o = o} {v = v} b a i) = record { operation = o; behind = _; inner = _; close = v; tree = refl; operator = b; is = spells_process a; closes = i }

-- what no other token begins is a step
pub of_step : {text : List ℕ} {p : PlainProcess} {t : Token} {ts us r : List Token} → ts ≡ t ∷ us → (t.kind ≡ Delta → ⊥) → (t.kind ≡ LeftParen → ⊥) → (t.kind ≡ Allow → ⊥) → (t.kind ≡ Block → ⊥) → (t.kind ≡ Hide → ⊥)
    → (t.kind ≡ Rename → ⊥) → (t.kind ≡ Comm → ⊥) → SpellsAtom text p ts r → SpellsStep text p ts r
of_step e d l a b h n c x = rw e (begun d l a b h n c (rw e at x))
  where
    begun : {text : List ℕ} {p : PlainProcess} {t : Token} {us r : List Token} → (t.kind ≡ Delta → ⊥) → (t.kind ≡ LeftParen → ⊥) → (t.kind ≡ Allow → ⊥) → (t.kind ≡ Block → ⊥) → (t.kind ≡ Hide → ⊥)
        → (t.kind ≡ Rename → ⊥) → (t.kind ≡ Comm → ⊥) → SpellsAtom text p (t ∷ us) r → SpellsStep text p (t ∷ us) r
    begun d l a b h n c (atom_delta k) = absurd (d k)
    begun d l a b h n c (atom_action x) = step_action x
    begun d l a b h n c (atom_call x) = step_call x
    begun d l a b h n c (atom_brackets k x i) = absurd (l k)
    begun d l a b h n c (atom_operator (spells_allow k i x j) y m) = absurd (a k)
    begun d l a b h n c (atom_operator (spells_block k i x j) y m) = absurd (b k)
    begun d l a b h n c (atom_operator (spells_hide k i x j) y m) = absurd (h k)
    begun d l a b h n c (atom_operator (spells_rename k i x j) y m) = absurd (n k)
    begun d l a b h n c (atom_operator (spells_comm k i x j) y m) = absurd (c k)

-- Brackets: the reading of what they close.
abbrev pub OnlyProcess : List ℕ → PlainProcess → List Token → List Token → Type 0
OnlyProcess text p ts us = (q : PlainProcess) (r : List Token) → SpellsProcess text q ts r → Ends r → (p ≡ q) × (us ≡ r)

pub inner_err : (Q : Type 0) {text : List ℕ} {t : Token} {p : PlainProcess} {us r : List Token} → ((q : PlainProcess) (v : List Token) → SpellsProcess text q us v → Ends v → Q) → IsBracketed text t p us r → Q
inner_err Q {r = r} f b = f b.inner (b.close ∷ r) b.is (ends_shut b.close r b.closes)

pub close_err : {text : List ℕ} {t : Token} {p q : PlainProcess} {us ws r : List Token} → OnlyProcess text q us ws → (Begins RightParen ws → ⊥) → IsBracketed text t p us r → ⊥
close_err {r = r} only n b = n (moved RightParen (sym (only b.inner (b.close ∷ r) b.is (ends_shut b.close r b.closes)).1) b.closes)

pub brackets_only : {text : List ℕ} {t v : Token} {p q x : PlainProcess} {at : Span} {us ws vs r : List Token} → x ≡ within at q → at ≡ span_of t v → OnlyProcess text q us ws → ws ≡ v ∷ vs → IsBracketed text t p us r
    → (x ≡ p) × (vs ≡ r)
brackets_only {t = t} {q = q} {r = r} x i only e b =
    let same = only b.inner (b.close ∷ r) b.is (ends_shut b.close r b.closes) in
    let ends = sym e ∙ same.1 in
    (x ∙ ap (λ (y : Span). within y q) (i ∙ ap (span_of t) (heads ends)) ∙ ap (within (span_of t b.close)) same.0 ∙ sym b.tree, tails ends)

-- Operators: the reading of the operator, and of what it closes.
abbrev pub OnlyOperation : List ℕ → Operation → List Token → List Token → Type 0
OnlyOperation text o ts us = (x : Operation) (r : List Token) → SpellsOperation text x ts r → (o ≡ x) × (us ≡ r)

process_from : {text : List ℕ} {p : PlainProcess} {ts us r : List Token} → ts ≡ us → SpellsProcess text p us r → SpellsProcess text p ts r
process_from {text = text} {p = p} {r = r} e d = subst (λ (x : List Token). SpellsProcess text p x r) (sym e) d

pub around_err : (Q : Type 0) {text : List ℕ} {t : Token} {o : Operation} {p : PlainProcess} {ts us r : List Token} → OnlyOperation text o ts us → ((q : PlainProcess) (v : List Token) → SpellsProcess text q us v → Ends v → Q)
    → IsOperated text t p ts r → Q
around_err Q {r = r} only f b = f b.inner (b.close ∷ r) (process_from (only b.operation b.behind b.operator).1 b.is) (ends_shut b.close r b.closes)

pub shut_err : {text : List ℕ} {t : Token} {o : Operation} {p q : PlainProcess} {ts us ws r : List Token} → OnlyOperation text o ts us → OnlyProcess text q us ws → (Begins RightParen ws → ⊥) → IsOperated text t p ts r → ⊥
shut_err {r = r} o only n b = n (moved RightParen (sym (only b.inner (b.close ∷ r) (process_from (o b.operation b.behind b.operator).1 b.is) (ends_shut b.close r b.closes)).1) b.closes)

pub operator_only : {text : List ℕ} {t v : Token} {o : Operation} {p q x : PlainProcess} {at : Span} {ts us ws vs r : List Token} → x ≡ operated at o q → at ≡ span_of t v → OnlyOperation text o ts us
    → OnlyProcess text q us ws → ws ≡ v ∷ vs → IsOperated text t p ts r → (x ≡ p) × (vs ≡ r)
operator_only {t = t} {o = o} {q = q} {r = r} x i first only e b =
    let operation = first b.operation b.behind b.operator in
    let same = only b.inner (b.close ∷ r) (process_from operation.1 b.is) (ends_shut b.close r b.closes) in
    let ends = sym e ∙ same.1 in (
      x ∙ ap (λ (y : Span). operated y o q) (i ∙ ap (span_of t) (heads ends)) ∙ ap (λ (y : Operation). operated (span_of t b.close) y q) operation.0
          ∙ ap (operated (span_of t b.close) b.operation) same.0 ∙ sym b.tree,
      tails ends,
    )

pub is_operation : {k : Kind} → (k ≡ Allow) ⊎ ((k ≡ Block) ⊎ ((k ≡ Hide) ⊎ ((k ≡ Rename) ⊎ (k ≡ Comm)))) → class k ≡ is_operator
is_operation (inl e) = ap class e
is_operation (inr (inl e)) = ap class e
is_operation (inr (inr (inl e))) = ap class e
is_operation (inr (inr (inr (inl e)))) = ap class e
is_operation (inr (inr (inr (inr e)))) = ap class e
