-- No front of the same tokens is read as two process terms, where each reading stops at what can't go on.
use Rattle.std.proofs.Common.{◌≡◌, ◌≢◌, ◌⊎◌, ℕ, zero, Bool, true, false, List, [], ◌∷◌, Some, refl, ap, sym, ◌∙◌, subst, inl, inr}
use Rattle.mcrl2_lexer.specs.declared.kind.Kind.{Kind}
use Rattle.mcrl2_lexer.specs.declared.kind.Kind.TheVariants.{Identifier, Tau, Delta, LeftParen, RightParen, Comma, Plus, BarBar, LeftMerge, Bar, Sum, Dot, Arrow, Else, Allow, Block, Hide, Rename, Comm}
use Rattle.mcrl2_lexer.specs.declared.token.Token.{Token}
use Rattle.mcrl2_syntax.specs.declared.data_tree.PrefixSign.{PrefixSign}
use Rattle.mcrl2_syntax.specs.Words.{Begins, span_of, joined}
use Rattle.mcrl2_syntax.specs.DataTrees.{PlainData, data_span}
use Rattle.mcrl2_syntax.specs.ProcessParts.{PlainAction, PlainVarGroup}
use Rattle.mcrl2_syntax.specs.ProcessTrees.{PlainProcess, acts, left_merge, within, sum, when, either, process_span}
use Rattle.mcrl2_syntax.specs.InfixSigns.{prefix_of}
use Rattle.mcrl2_syntax.specs.SpelledData.{SpellsUnit, unit_name, unit_numeral, unit_true, unit_false, unit_empty, unit_list, unit_apply, unit_brackets, unit_prefix}
use Rattle.mcrl2_syntax.specs.SpelledLabels.{SpellsAction, action_tau, action_name, action_applied, SpellsCall, call_empty, call_assigns, Operation, operated, SpellsOperation, spells_allow, spells_block, spells_hide, spells_rename, spells_comm}
use Rattle.mcrl2_syntax.specs.SpelledProcesses.{together, sequenced, merged, chosen, SpellsAtom, atom_delta, atom_action, atom_call, atom_brackets, atom_operator, SpellsMulti, multi_last, multi_more, SpellsOperand, operand_sum, operand_cond, operand_parts, SpellsDots, dots_end, dots_atom, dots_sum, dots_cond, SpellsSum, sum_over, SpellsCond, cond_then, cond_else, SpellsLeft, left_last, left_more, SpellsMerge, merge_last, merge_more, SpellsChoices, choices_last, choices_more, SpellsProcess, spells_process}
use Rattle.mcrl2_syntax.specs.Follow.{Follows, Stays, Ends}
use Rattle.mcrl2_syntax.proofs.Lists.{heads, tails, moved}
use Rattle.mcrl2_syntax.proofs.DataOnce.{stops_at, closed_paren, not_prefix, unit_once, items_once}
use Rattle.mcrl2_syntax.proofs.LabelsOnce.{no_other, action_once, action_call, items_call, call_once, vars_once, operation_once}
use Rattle.mcrl2_syntax.proofs.Balance.{past_close, at_close, level_balanced, choices_balanced}

follows : (b : Token) (us : List Token) (k : Kind) → b.kind ≡ k → k ≢ Dot → k ≢ Arrow → k ≢ LeftParen → k ≢ Bar → Follows (b ∷ us)
follows b us k e w x y z = record { dot = λ f. w (sym e ∙ f); arrow = λ f. x (sym e ∙ f); paren = λ f. y (sym e ∙ f); bar = λ f. z (sym e ∙ f) }

pub at_parallel : (b : Token) (us : List Token) → b.kind ≡ BarBar → Follows (b ∷ us)
at_parallel b us e = follows b us BarBar e (λ f. cc) (λ f. cc) (λ f. cc) (λ f. cc)

not_left : (b : Token) (us : List Token) → b.kind ≡ BarBar → Begins LeftMerge (b ∷ us) → ⊥
not_left b us e = no_other BarBar LeftMerge b us e (λ f. cc)

pub at_left : (b : Token) (us : List Token) → b.kind ≡ LeftMerge → Follows (b ∷ us)
at_left b us e = follows b us LeftMerge e (λ f. cc) (λ f. cc) (λ f. cc) (λ f. cc)

pub at_else : (b : Token) (us : List Token) → b.kind ≡ Else → Follows (b ∷ us)
at_else b us e = follows b us Else e (λ f. cc) (λ f. cc) (λ f. cc) (λ f. cc)

pub at_plus : (b : Token) (us : List Token) → b.kind ≡ Plus → Follows (b ∷ us)
at_plus b us e = follows b us Plus e (λ f. cc) (λ f. cc) (λ f. cc) (λ f. cc)

at_shut : (b : Token) (us : List Token) → b.kind ≡ RightParen → Follows (b ∷ us)
at_shut b us e = follows b us RightParen e (λ f. cc) (λ f. cc) (λ f. cc) (λ f. cc)

pub stays_else : {s : Bool} (b : Token) (us : List Token) → b.kind ≡ Else → Stays s false (b ∷ us)
stays_else b us e = record { sum_ends = λ n f. let g : BarBar ≡ Else = sym f ∙ e in cc; left_ends = λ n f. let g : LeftMerge ≡ Else = sym f ∙ e in cc; open_ends = λ n. absurd cc }

pub stays_parallel : {o : Bool} (b : Token) (us : List Token) → b.kind ≡ BarBar → Stays false o (b ∷ us)
stays_parallel b us e = record { sum_ends = λ n. absurd cc; left_ends = λ n. absurd cc; open_ends = λ n f. let g : Else ≡ BarBar = sym f ∙ e in cc }

pub stays_left : {o : Bool} (b : Token) (us : List Token) → b.kind ≡ LeftMerge → Stays false o (b ∷ us)
stays_left b us e = record { sum_ends = λ n. absurd cc; left_ends = λ n. absurd cc; open_ends = λ n f. let g : Else ≡ LeftMerge = sym f ∙ e in cc }

pub stays_plus : {s o : Bool} (b : Token) (us : List Token) → b.kind ≡ Plus → Stays s o (b ∷ us)
stays_plus b us e = record { sum_ends = λ n f. let g : BarBar ≡ Plus = sym f ∙ e in cc; left_ends = λ n f. let g : LeftMerge ≡ Plus = sym f ∙ e in cc; open_ends = λ n f. let g : Else ≡ Plus = sym f ∙ e in cc }

pub stays_any : {s o : Bool} {r : List Token} → Stays true o r → Stays s o r
stays_any t = record { sum_ends = λ n. t.sum_ends refl; left_ends = λ n. t.left_ends refl; open_ends = t.open_ends }

pub then_stays : {s o : Bool} {r : List Token} → Stays s true r → Stays s o r
then_stays t = record { sum_ends = t.sum_ends; left_ends = t.left_ends; open_ends = λ n. t.open_ends refl }

pub ends_stay : {s o : Bool} (r : List Token) → Ends r → Stays s o r
ends_stay r e = record { sum_ends = λ n. e.parallel; left_ends = λ n. e.left; open_ends = λ n. e.else }

pub ends_shut : (b : Token) (us : List Token) → b.kind ≡ RightParen → Ends (b ∷ us)
ends_shut b us e = record { follows = at_shut b us e; plus = no_other RightParen Plus b us e (λ f. cc); parallel = no_other RightParen BarBar b us e (λ f. cc); left = no_other RightParen LeftMerge b us e (λ f. cc); else = no_other RightParen Else b us e (λ f. cc) }

pub ends_nowhere : Ends []
ends_nowhere = record { follows = record { dot = λ b. b; arrow = λ b. b; paren = λ b. b; bar = λ b. b }; plus = λ b. b; parallel = λ b. b; left = λ b. b; else = λ b. b }

-- What begins which part of a process term.
pub data Class : Type 0 where
  is_delta : Class
  is_action : Class
  is_paren : Class
  is_operator : Class
  is_sum : Class
  is_other : Class

abbrev pub class : Kind → Class
class Delta = is_delta
class Tau = is_action
class Identifier = is_action
class LeftParen = is_paren
class Allow = is_operator
class Block = is_operator
class Hide = is_operator
class Rename = is_operator
class Comm = is_operator
class Sum = is_sum
class _ = is_other

pub apart : {x a b : Class} → x ≡ a → x ≡ b → a ≢ b → ⊥
apart e f n = n (sym e ∙ f)

pub action_class : {text : List ℕ} {a : PlainAction} {t : Token} {ts r : List Token} → SpellsAction text a (t ∷ ts) r → class t.kind ≡ is_action
action_class (action_tau h) = ap class h
action_class (action_name h) = ap class h
action_class (action_applied h i a j) = ap class h

pub call_class : {text : List ℕ} {p : PlainProcess} {t : Token} {ts r : List Token} → SpellsCall text p (t ∷ ts) r → class t.kind ≡ is_action
call_class (call_empty h i j) = ap class h
call_class (call_assigns h i a j) = ap class h

pub operation_class : {text : List ℕ} {o : Operation} {t : Token} {ts r : List Token} → SpellsOperation text o (t ∷ ts) r → class t.kind ≡ is_operator
operation_class (spells_allow h i a j) = ap class h
operation_class (spells_block h i a j) = ap class h
operation_class (spells_hide h i a j) = ap class h
operation_class (spells_rename h i a j) = ap class h
operation_class (spells_comm h i a j) = ap class h

prefix_class : (k : Kind) (sign : PrefixSign) → prefix_of k ≡ Some sign → class k ≡ is_other
prefix_class Delta sign e = absurd cc
prefix_class Tau sign e = absurd cc
prefix_class Identifier sign e = absurd cc
prefix_class LeftParen sign e = absurd cc
prefix_class Allow sign e = absurd cc
prefix_class Block sign e = absurd cc
prefix_class Hide sign e = absurd cc
prefix_class Rename sign e = absurd cc
prefix_class Comm sign e = absurd cc
prefix_class Sum sign e = absurd cc
prefix_class _ sign e = refl

-- a unit doesn't begin with a word of processes
unit_class : {text : List ℕ} {c : PlainData} {t : Token} {ts r : List Token} → SpellsUnit text c (t ∷ ts) r → (class t.kind ≡ is_action) ⊎ ((class t.kind ≡ is_paren) ⊎ (class t.kind ≡ is_other))
unit_class (unit_name h) = inl (ap class h)
unit_class (unit_numeral h) = inr (inr (ap class h))
unit_class (unit_true h) = inr (inr (ap class h))
unit_class (unit_false h) = inr (inr (ap class h))
unit_class (unit_empty h i) = inr (inr (ap class h))
unit_class (unit_list h a i) = inr (inr (ap class h))
unit_class (unit_apply h i a j) = inl (ap class h)
unit_class (unit_brackets h a i) = inr (inl (ap class h))
unit_class (unit_prefix {t = t} {sign = sign} h a) = inr (inr (prefix_class t.kind sign h))

pub unit_apart : {text : List ℕ} {c : PlainData} {t : Token} {ts r : List Token} {k : Class} → SpellsUnit text c (t ∷ ts) r → class t.kind ≡ k → is_action ≢ k → is_paren ≢ k → is_other ≢ k → ⊥
unit_apart a e x y z = elim (unit_class a) [ inl f ↦ apart f e x | inr g ↦ elim g [ inl f ↦ apart f e y | inr f ↦ apart f e z ] ]

-- where brackets match, the rests are one
same_past : (q r us : List Token) (v w : Token) → past_close us zero ≡ past_close (v ∷ q) zero → past_close us zero ≡ past_close (w ∷ r) zero → v.kind ≡ RightParen → w.kind ≡ RightParen → q ≡ r
same_past q r us v w e f h k = let g : Some q ≡ Some r = sym (at_close v q h) ∙ sym e ∙ f ∙ at_close w r k in cc

-- A condition isn't an action: what begins as both goes on with an arrow.
unit_action : {text : List ℕ} {c : PlainData} {a : PlainAction} {ts q r : List Token} → SpellsUnit text c ts q → Begins Arrow q → SpellsAction text a ts r → (Begins Arrow r → ⊥) → (Begins LeftParen r → ⊥) → ⊥
unit_action (unit_name h) b (action_tau k) x y = cc
unit_action (unit_name h) b (action_name k) x y = x b
unit_action (unit_name h) b (action_applied k l c m) x y = let e : Arrow ≡ LeftParen = sym b ∙ l in cc
unit_action (unit_apply h i d j) b (action_tau k) x y = cc
unit_action (unit_apply h i d j) b (action_name k) x y = y i
unit_action (unit_apply {v = v} {r = q} h i d j) b (action_applied {v = w} {r = r} k l c m) x y = x (moved Arrow (tails (items_once d c (closed_paren v q j) (closed_paren w r m)).1) b)
unit_action (unit_numeral {t = t} h) b a x y = apart (ap class h) (action_class a) (λ e. cc)
unit_action (unit_true h) b a x y = apart (ap class h) (action_class a) (λ e. cc)
unit_action (unit_false h) b a x y = apart (ap class h) (action_class a) (λ e. cc)
unit_action (unit_empty h i) b a x y = apart (ap class h) (action_class a) (λ e. cc)
unit_action (unit_list h d i) b a x y = apart (ap class h) (action_class a) (λ e. cc)
unit_action (unit_brackets h d i) b a x y = apart (ap class h) (action_class a) (λ e. cc)
unit_action (unit_prefix {t = t} {sign = sign} h d) b a x y = apart (prefix_class t.kind sign h) (action_class a) (λ e. cc)

unit_call : {text : List ℕ} {c : PlainData} {p : PlainProcess} {ts q r : List Token} → SpellsUnit text c ts q → Begins Arrow q → SpellsCall text p ts r → ⊥
unit_call (unit_name h) b (call_empty k l m) = let e : Arrow ≡ LeftParen = sym b ∙ l in cc
unit_call (unit_name h) b (call_assigns k l c m) = let e : Arrow ≡ LeftParen = sym b ∙ l in cc
unit_call (unit_apply h i d j) b a = items_call d j a
unit_call (unit_numeral {t = t} h) b a = apart (ap class h) (call_class a) (λ e. cc)
unit_call (unit_true h) b a = apart (ap class h) (call_class a) (λ e. cc)
unit_call (unit_false h) b a = apart (ap class h) (call_class a) (λ e. cc)
unit_call (unit_empty h i) b a = apart (ap class h) (call_class a) (λ e. cc)
unit_call (unit_list h d i) b a = apart (ap class h) (call_class a) (λ e. cc)
unit_call (unit_brackets h d i) b a = apart (ap class h) (call_class a) (λ e. cc)
unit_call (unit_prefix {t = t} {sign = sign} h d) b a = apart (prefix_class t.kind sign h) (call_class a) (λ e. cc)

unit_within : {text : List ℕ} {c : PlainData} {ps : List PlainProcess} {t v : Token} {ts q r : List Token} → SpellsUnit text c (t ∷ ts) q → Begins Arrow q → t.kind ≡ LeftParen → SpellsChoices text ps ts (v ∷ r) → v.kind ≡ RightParen
    → (Begins Arrow r → ⊥) → ⊥
unit_within {v = w} {r = r} (unit_brackets {v = v} {ts = us} {r = q} h a i) b k c l x = x (moved Arrow (same_past q r us v w (level_balanced a zero) (choices_balanced c zero) i l) b)
unit_within (unit_name h) b k c l x = cc
unit_within (unit_numeral h) b k c l x = cc
unit_within (unit_true h) b k c l x = cc
unit_within (unit_false h) b k c l x = cc
unit_within (unit_empty h i) b k c l x = cc
unit_within (unit_list h a i) b k c l x = cc
unit_within (unit_apply h i a j) b k c l x = cc
unit_within (unit_prefix h a) b k c l x = not_prefix LeftParen refl k h

-- What no atom can go on with.
pub record Atomic (r : List Token) : Type 0 where
  pub arrow : Begins Arrow r → ⊥
  pub paren : Begins LeftParen r → ⊥

-- What no atoms with `|` between them can go on with.
pub record Alone (r : List Token) : Type 0 where
  pub atomic : Atomic r
  pub bar : Begins Bar r → ⊥

pub at_bar : (b : Token) (us : List Token) → b.kind ≡ Bar → Atomic (b ∷ us)
at_bar b us e = record { arrow = no_other Bar Arrow b us e (λ f. cc); paren = no_other Bar LeftParen b us e (λ f. cc) }

pub unit_atom : {text : List ℕ} {c : PlainData} {p : PlainProcess} {ts q r : List Token} → SpellsUnit text c ts q → Begins Arrow q → SpellsAtom text p ts r → Atomic r → ⊥
unit_atom a b (atom_delta k) f = unit_apart a (ap class k) (λ e. cc) (λ e. cc) (λ e. cc)
unit_atom a b (atom_action c) f = unit_action a b c f.arrow f.paren
unit_atom a b (atom_call c) f = unit_call a b c
unit_atom a b (atom_brackets k c l) f = unit_within a b k c l f.arrow
unit_atom a b (atom_operator c d l) f = unit_apart a (operation_class c) (λ e. cc) (λ e. cc) (λ e. cc)

pub alone : {text : List ℕ} {s o : Bool} {ps : List PlainProcess} {us r : List Token} → SpellsDots text s o ps us r → Follows r → Alone us
alone dots_end f = record { atomic = record { arrow = f.arrow; paren = f.paren }; bar = f.bar }
alone (dots_atom {t = t} {ts = ts} h a b) f = record { atomic = record { arrow = no_other Dot Arrow t ts h (λ e. cc); paren = no_other Dot LeftParen t ts h (λ e. cc) }; bar = no_other Dot Bar t ts h (λ e. cc) }
alone (dots_sum {t = t} {ts = ts} h a) f = record { atomic = record { arrow = no_other Dot Arrow t ts h (λ e. cc); paren = no_other Dot LeftParen t ts h (λ e. cc) }; bar = no_other Dot Bar t ts h (λ e. cc) }
alone (dots_cond {t = t} {ts = ts} h a) f = record { atomic = record { arrow = no_other Dot Arrow t ts h (λ e. cc); paren = no_other Dot LeftParen t ts h (λ e. cc) }; bar = no_other Dot Bar t ts h (λ e. cc) }

cond_atom : {text : List ℕ} {s o : Bool} {p q : PlainProcess} {ts us t : List Token} → SpellsCond text s o p ts t → SpellsAtom text q ts us → Atomic us → ⊥
cond_atom (cond_then a h b) c d = unit_atom a h c d
cond_atom (cond_else a h b k e) c d = unit_atom a h c d

pub cond_multi : {text : List ℕ} {s o : Bool} {p : PlainProcess} {qs : List PlainProcess} {ts us t : List Token} → SpellsCond text s o p ts t → SpellsMulti text qs ts us → Alone us → ⊥
cond_multi a (multi_last c) d = cond_atom a c d.atomic
cond_multi a (multi_more {b = b} {us = us} c k e) d = cond_atom a c (at_bar b us k)

sum_atom : {text : List ℕ} {o : Bool} {p q : PlainProcess} {ts t r : List Token} → SpellsSum text o p ts t → SpellsAtom text q ts r → ⊥
sum_atom (sum_over h a i b) (atom_delta k) = cc
sum_atom (sum_over h a i b) (atom_action c) = apart (ap class h) (action_class c) (λ e. cc)
sum_atom (sum_over h a i b) (atom_call c) = apart (ap class h) (call_class c) (λ e. cc)
sum_atom (sum_over h a i b) (atom_brackets k c l) = cc
sum_atom (sum_over h a i b) (atom_operator c d l) = apart (ap class h) (operation_class c) (λ e. cc)

sum_multi : {text : List ℕ} {o : Bool} {p : PlainProcess} {qs : List PlainProcess} {ts t r : List Token} → SpellsSum text o p ts t → SpellsMulti text qs ts r → ⊥
sum_multi a (multi_last c) = sum_atom a c
sum_multi a (multi_more c k d) = sum_atom a c

pub sum_unit : {text : List ℕ} {o : Bool} {p : PlainProcess} {c : PlainData} {ts t r : List Token} → SpellsSum text o p ts t → SpellsUnit text c ts r → ⊥
sum_unit (sum_over h a i b) u = unit_apart u (ap class h) (λ e. cc) (λ e. cc) (λ e. cc)

sum_cond : {text : List ℕ} {o s y : Bool} {p q : PlainProcess} {ts t r : List Token} → SpellsSum text o p ts t → SpellsCond text s y q ts r → ⊥
sum_cond a (cond_then b h c) = sum_unit a b
sum_cond a (cond_else b h c k d) = sum_unit a b

-- the same reading of an equal list
pub dots_from : {text : List ℕ} {s o : Bool} {ps : List PlainProcess} {ts us r : List Token} → ts ≡ us → SpellsDots text s o ps us r → SpellsDots text s o ps ts r
dots_from {text = text} {s = s} {o = o} {ps = ps} {r = r} e d = subst (λ (x : List Token). SpellsDots text s o ps x r) (sym e) d

pub operand_from : {text : List ℕ} {s o : Bool} {p : PlainProcess} {ts us r : List Token} → ts ≡ us → SpellsOperand text s o p us r → SpellsOperand text s o p ts r
operand_from {text = text} {s = s} {o = o} {p = p} {r = r} e d = subst (λ (x : List Token). SpellsOperand text s o p x r) (sym e) d

pub merge_from : {text : List ℕ} {o : Bool} {ps : List PlainProcess} {ts us r : List Token} → ts ≡ us → SpellsMerge text o ps us r → SpellsMerge text o ps ts r
merge_from {text = text} {o = o} {ps = ps} {r = r} e d = subst (λ (x : List Token). SpellsMerge text o ps x r) (sym e) d

pub choices_from : {text : List ℕ} {ps : List PlainProcess} {ts us r : List Token} → ts ≡ us → SpellsChoices text ps us r → SpellsChoices text ps ts r
choices_from {text = text} {ps = ps} {r = r} e d = subst (λ (x : List Token). SpellsChoices text ps x r) (sym e) d

multi_from : {text : List ℕ} {ps : List PlainProcess} {ts us r : List Token} → ts ≡ us → SpellsMulti text ps us r → SpellsMulti text ps ts r
multi_from {text = text} {ps = ps} {r = r} e d = subst (λ (x : List Token). SpellsMulti text ps x r) (sym e) d

left_from : {text : List ℕ} {s o : Bool} {p : PlainProcess} {ts us r : List Token} → ts ≡ us → SpellsLeft text s o p us r → SpellsLeft text s o p ts r
left_from {text = text} {s = s} {o = o} {p = p} {r = r} e d = subst (λ (x : List Token). SpellsLeft text s o p x r) (sym e) d

pub guard_once : {text : List ℕ} {c d : PlainData} {a b : Token} {ts us vs : List Token} → SpellsUnit text c ts (a ∷ us) → a.kind ≡ Arrow → SpellsUnit text d ts (b ∷ vs) → b.kind ≡ Arrow → (c ≡ d) × (us ≡ vs)
guard_once {a = a} {b = b} {us = us} {vs = vs} u h v k =
    let e = unit_once u v (stops_at Arrow (λ f. cc) refl 0 a us h) (stops_at Arrow (λ f. cc) refl 0 b vs k) in (e.0, tails e.1)

mutual
  atom_once : {text : List ℕ} {p o : PlainProcess} {ts q r : List Token} → SpellsAtom text p ts q → SpellsAtom text o ts r → Atomic q → Atomic r → (p ≡ o) × (q ≡ r)
  atom_once (atom_delta h) (atom_delta k) s t = (refl, refl)
  atom_once (atom_delta h) (atom_action b) s t = absurd (apart (ap class h) (action_class b) (λ e. cc))
  atom_once (atom_delta h) (atom_call b) s t = absurd (apart (ap class h) (call_class b) (λ e. cc))
  atom_once (atom_delta h) (atom_brackets k b l) s t = absurd cc
  atom_once (atom_delta h) (atom_operator b c l) s t = absurd (apart (ap class h) (operation_class b) (λ e. cc))
  atom_once (atom_action a) (atom_delta k) s t = absurd (apart (ap class k) (action_class a) (λ e. cc))
  atom_once (atom_action a) (atom_action b) s t = let e = action_once a b s.paren t.paren in (ap (λ (y : PlainAction). acts y) e.0, e.1)
  atom_once (atom_action a) (atom_call b) s t = absurd (action_call a b s.paren)
  atom_once (atom_action a) (atom_brackets k b l) s t = absurd (apart (ap class k) (action_class a) (λ e. cc))
  atom_once {ts = ts} (atom_action a) (atom_operator b c l) s t = absurd (apart (operation_class b) (action_class a) (λ e. cc))
  atom_once (atom_call a) (atom_delta k) s t = absurd (apart (ap class k) (call_class a) (λ e. cc))
  atom_once (atom_call a) (atom_action b) s t = absurd (action_call b a t.paren)
  atom_once (atom_call a) (atom_call b) s t = call_once a b
  atom_once (atom_call a) (atom_brackets k b l) s t = absurd (apart (ap class k) (call_class a) (λ e. cc))
  atom_once (atom_call a) (atom_operator b d l) s t = absurd (apart (operation_class b) (call_class a) (λ e. cc))
  atom_once (atom_brackets h a i) (atom_delta k) s t = absurd cc
  atom_once (atom_brackets h a i) (atom_action b) s t = absurd (apart (ap class h) (action_class b) (λ e. cc))
  atom_once (atom_brackets h a i) (atom_call b) s t = absurd (apart (ap class h) (call_class b) (λ e. cc))
  atom_once (atom_brackets {t = x} {v = v} {ps = ps} {r = q} h a i) (atom_brackets {v = w} {ps = os} {r = r} k b l) s t =
      let e = choices_once a b (ends_shut v q i) (ends_shut w r l) in
      (ap (λ (z : Token). within (span_of x z) (chosen ps)) (heads e.1) ∙ ap (λ (z : List PlainProcess). within (span_of x w) (chosen z)) e.0, tails e.1)
  atom_once (atom_brackets h a i) (atom_operator b d l) s t = absurd (apart (ap class h) (operation_class b) (λ e. cc))
  atom_once (atom_operator a c i) (atom_delta k) s t = absurd (apart (ap class k) (operation_class a) (λ e. cc))
  atom_once (atom_operator a c i) (atom_action b) s t = absurd (apart (operation_class a) (action_class b) (λ e. cc))
  atom_once (atom_operator a c i) (atom_call b) s t = absurd (apart (operation_class a) (call_class b) (λ e. cc))
  atom_once (atom_operator a c i) (atom_brackets k b l) s t = absurd (apart (ap class k) (operation_class a) (λ e. cc))
  atom_once (atom_operator {o = o} {t = x} {v = v} {ps = ps} {r = q} a c i) (atom_operator {o = y} {v = w} {ps = os} {r = r} b d l) s t =
      let f = operation_once a b in
      let e = choices_once c (choices_from f.1 d) (ends_shut v q i) (ends_shut w r l) in (
        ap (λ (z : Operation). operated (span_of x v) z (chosen ps)) f.0 ∙ ap (λ (z : Token). operated (span_of x z) y (chosen ps)) (heads e.1)
            ∙ ap (λ (z : List PlainProcess). operated (span_of x w) y (chosen z)) e.0,
        tails e.1,
      )

  multi_once : {text : List ℕ} {ps qs : List PlainProcess} {ts q r : List Token} → SpellsMulti text ps ts q → SpellsMulti text qs ts r → Alone q → Alone r → (ps ≡ qs) × (q ≡ r)
  multi_once (multi_last a) (multi_last b) s t = let e = atom_once a b s.atomic t.atomic in (ap (λ (x : PlainProcess). x ∷ []) e.0, e.1)
  multi_once (multi_last a) (multi_more {b = w} {us = us} b k d) s t = let e = atom_once a b s.atomic (at_bar w us k) in absurd (s.bar (moved Bar (sym e.1) k))
  multi_once (multi_more {b = w} {us = us} a h c) (multi_last b) s t = let e = atom_once a b (at_bar w us h) t.atomic in absurd (t.bar (moved Bar e.1 h))
  multi_once (multi_more {p = p} {ps = ps} {b = w} {us = us} a h c) (multi_more {p = p'} {b = v} {us = vs} b k d) s t =
      let e = atom_once a b (at_bar w us h) (at_bar v vs k) in
      let z = multi_once c (multi_from (tails e.1) d) s t in
      (ap (λ (x : PlainProcess). x ∷ ps) e.0 ∙ ap (λ (x : List PlainProcess). p' ∷ x) z.0, z.1)

  operand_once : {text : List ℕ} {s o z y : Bool} {p p' : PlainProcess} {ts q r : List Token} → SpellsOperand text s o p ts q → SpellsOperand text z y p' ts r → Follows q → Stays s o q → Follows r → Stays z y r → (p ≡ p') × (q ≡ r)
  operand_once (operand_sum a) (operand_sum b) f s g t = sum_once a b f s g t
  operand_once (operand_sum a) (operand_cond b) f s g t = absurd (sum_cond a b)
  operand_once (operand_sum a) (operand_parts b c) f s g t = absurd (sum_multi a b)
  operand_once (operand_cond a) (operand_sum b) f s g t = absurd (sum_cond b a)
  operand_once (operand_cond a) (operand_cond b) f s g t = cond_once a b f s g t
  operand_once (operand_cond a) (operand_parts b c) f s g t = absurd (cond_multi a b (alone c g))
  operand_once (operand_parts a c) (operand_sum b) f s g t = absurd (sum_multi b a)
  operand_once (operand_parts a c) (operand_cond b) f s g t = absurd (cond_multi b a (alone c f))
  operand_once (operand_parts {as_ = as_} {ps = ps} a c) (operand_parts {as_ = as_'} {ps = ps'} b d) f s g t =
      let first = multi_once a b (alone c f) (alone d g) in
      let rest = dots_once c (dots_from first.1 d) f s g t in
      (ap (λ (x : List PlainProcess). sequenced (together x ∷ ps)) first.0 ∙ ap (λ (x : List PlainProcess). sequenced (together as_' ∷ x)) rest.0, rest.1)

  dots_once : {text : List ℕ} {s o z y : Bool} {ps qs : List PlainProcess} {ts q r : List Token} → SpellsDots text s o ps ts q → SpellsDots text z y qs ts r → Follows q → Stays s o q → Follows r → Stays z y r → (ps ≡ qs) × (q ≡ r)
  dots_once dots_end dots_end f s g t = (refl, refl)
  dots_once dots_end (dots_atom h a b) f s g t = absurd (f.dot h)
  dots_once dots_end (dots_sum h a) f s g t = absurd (f.dot h)
  dots_once dots_end (dots_cond h a) f s g t = absurd (f.dot h)
  dots_once (dots_atom h a b) dots_end f s g t = absurd (g.dot h)
  dots_once (dots_atom {as_ = as_} {ps = ps} h a c) (dots_atom {as_ = as_'} {ps = ps'} k b d) f s g t =
      let first = multi_once a b (alone c f) (alone d g) in
      let rest = dots_once c (dots_from first.1 d) f s g t in
      (ap (λ (x : List PlainProcess). together x ∷ ps) first.0 ∙ ap (λ (x : List PlainProcess). together as_' ∷ x) rest.0, rest.1)
  dots_once (dots_atom h a c) (dots_sum k b) f s g t = absurd (sum_multi b a)
  dots_once (dots_atom h a c) (dots_cond k b) f s g t = absurd (cond_multi b a (alone c f))
  dots_once (dots_sum h a) dots_end f s g t = absurd (g.dot h)
  dots_once (dots_sum h a) (dots_atom k b d) f s g t = absurd (sum_multi a b)
  dots_once (dots_sum h a) (dots_sum k b) f s g t = let e = sum_once a b f s g t in (ap (λ (x : PlainProcess). x ∷ []) e.0, e.1)
  dots_once (dots_sum h a) (dots_cond k b) f s g t = absurd (sum_cond a b)
  dots_once (dots_cond h a) dots_end f s g t = absurd (g.dot h)
  dots_once (dots_cond h a) (dots_atom k b d) f s g t = absurd (cond_multi a b (alone d g))
  dots_once (dots_cond h a) (dots_sum k b) f s g t = absurd (sum_cond b a)
  dots_once (dots_cond h a) (dots_cond k b) f s g t = let e = cond_once a b f s g t in (ap (λ (x : PlainProcess). x ∷ []) e.0, e.1)

  sum_once : {text : List ℕ} {o y : Bool} {p p' : PlainProcess} {ts q r : List Token} → SpellsSum text o p ts q → SpellsSum text y p' ts r → Follows q → Stays true o q → Follows r → Stays true y r → (p ≡ p') × (q ≡ r)
  sum_once (sum_over {t = x} {y = v} {xs = xs} {ps = ps} {us = us} h a i b) (sum_over {y = w} {xs = ys} {ps = os} {us = vs} k c j d) f s g t =
      let first = vars_once a c (no_other Dot Comma v us i (λ e. cc)) (no_other Dot Comma w vs j (λ e. cc)) in
      let rest = merge_once b (merge_from (tails first.1) d) f s g t in
      let made : List PlainVarGroup → List PlainProcess → PlainProcess = λ m n. sum (joined (span_of x x) (process_span (merged n))) m (merged n) in
      (ap (λ (m : List PlainVarGroup). made m ps) first.0 ∙ ap (λ (n : List PlainProcess). made ys n) rest.0, rest.1)

  cond_once : {text : List ℕ} {s o z y : Bool} {p p' : PlainProcess} {ts q r : List Token} → SpellsCond text s o p ts q → SpellsCond text z y p' ts r → Follows q → Stays s o q → Follows r → Stays z y r → (p ≡ p') × (q ≡ r)
  cond_once (cond_then {c = c} {p = p} a h b) (cond_then {c = c'} {p = p'} i k d) f s g t =
      let u = guard_once a h i k in
      let e = operand_once b (operand_from u.1 d) f (then_stays s) g (then_stays t) in
      let made : PlainData → PlainProcess → PlainProcess = λ m n. when (joined (data_span m) (process_span n)) m n in
      (ap (λ (m : PlainData). made m p) u.0 ∙ ap (λ (n : PlainProcess). made c' n) e.0, e.1)
  cond_once (cond_then a h b) (cond_else {e = w} {vs = vs} i k d l j) f s g t =
      let u = guard_once a h i k in
      let e = operand_once b (operand_from u.1 d) f (then_stays s) (at_else w vs l) (stays_else w vs l) in
      absurd (s.open_ends refl (moved Else (sym e.1) l))
  cond_once (cond_else {e = v} {vs = us} a h b m n) (cond_then i k d) f s g t =
      let u = guard_once a h i k in
      let e = operand_once b (operand_from u.1 d) (at_else v us m) (stays_else v us m) g (then_stays t) in
      absurd (t.open_ends refl (moved Else e.1 m))
  cond_once (cond_else {c = c} {p = p} {q = o} {e = v} {vs = us} a h b m n) (cond_else {c = c'} {p = p'} {q = o'} {e = w} {vs = vs} i k d l j) f s g t =
      let u = guard_once a h i k in
      let e = operand_once b (operand_from u.1 d) (at_else v us m) (stays_else v us m) (at_else w vs l) (stays_else w vs l) in
      let z = operand_once n (operand_from (tails e.1) j) f s g t in
      let made : PlainData → PlainProcess → PlainProcess → PlainProcess = λ x y w. either (joined (data_span x) (process_span w)) x y w in
      (ap (λ (x : PlainData). made x p o) u.0 ∙ ap (λ (x : PlainProcess). made c' x o) e.0 ∙ ap (λ (x : PlainProcess). made c' p' x) z.0, z.1)

  -- a row of `||_` goes on as far as it can
  left_once : {text : List ℕ} {s o z y : Bool} {p p' : PlainProcess} {ts q r : List Token} → SpellsLeft text s o p ts q → SpellsLeft text z y p' ts r → Follows q → Stays s o q → (Begins LeftMerge q → ⊥) → Follows r → Stays z y r → (Begins LeftMerge r → ⊥)
      → (p ≡ p') × (q ≡ r)
  left_once (left_last a) (left_last b) f s m g t n = operand_once a b f s g t
  left_once (left_last a) (left_more {b = w} {us = us} b h d) f s m g t n =
      let e = operand_once a b f s (at_left w us h) (stays_left w us h) in absurd (m (moved LeftMerge (sym e.1) h))
  left_once (left_more {b = w} {us = us} a h c) (left_last b) f s m g t n =
      let e = operand_once a b (at_left w us h) (stays_left w us h) g t in absurd (n (moved LeftMerge e.1 h))
  left_once (left_more {p = p} {q = q} {b = w} {us = us} a h c) (left_more {p = p'} {q = q'} {b = v} {us = vs} b k d) f s m g t n =
      let e = operand_once a b (at_left w us h) (stays_left w us h) (at_left v vs k) (stays_left v vs k) in
      let z = left_once c (left_from (tails e.1) d) f s m g t n in
      let made : PlainProcess → PlainProcess → PlainProcess = λ x y. left_merge (joined (process_span x) (process_span y)) x y in
      (ap (λ (x : PlainProcess). made x q) e.0 ∙ ap (λ (x : PlainProcess). made p' x) z.0, z.1)

  merge_once : {text : List ℕ} {o y : Bool} {ps qs : List PlainProcess} {ts q r : List Token} → SpellsMerge text o ps ts q → SpellsMerge text y qs ts r → Follows q → Stays true o q → Follows r → Stays true y r → (ps ≡ qs) × (q ≡ r)
  merge_once (merge_last a) (merge_last b) f s g t = let e = left_once a b f (stays_any s) (s.left_ends refl) g (stays_any t) (t.left_ends refl) in (ap (λ (x : PlainProcess). x ∷ []) e.0, e.1)
  merge_once (merge_last a) (merge_more {b = w} {us = us} b h d) f s g t =
      let e = left_once a b f (stays_any s) (s.left_ends refl) (at_parallel w us h) (stays_parallel w us h) (not_left w us h) in absurd (s.sum_ends refl (moved BarBar (sym e.1) h))
  merge_once (merge_more {b = w} {us = us} a h c) (merge_last b) f s g t =
      let e = left_once a b (at_parallel w us h) (stays_parallel w us h) (not_left w us h) g (stays_any t) (t.left_ends refl) in absurd (t.sum_ends refl (moved BarBar e.1 h))
  merge_once (merge_more {p = p} {ps = ps} {b = w} {us = us} a h c) (merge_more {p = p'} {b = v} {us = vs} b k d) f s g t =
      let e = left_once a b (at_parallel w us h) (stays_parallel w us h) (not_left w us h) (at_parallel v vs k) (stays_parallel v vs k) (not_left v vs k) in
      let z = merge_once c (merge_from (tails e.1) d) f s g t in
      (ap (λ (x : PlainProcess). x ∷ ps) e.0 ∙ ap (λ (x : List PlainProcess). p' ∷ x) z.0, z.1)

  pub choices_once : {text : List ℕ} {ps qs : List PlainProcess} {ts q r : List Token} → SpellsChoices text ps ts q → SpellsChoices text qs ts r → Ends q → Ends r → (ps ≡ qs) × (q ≡ r)
  choices_once {q = q} {r = r} (choices_last a) (choices_last b) f g =
      let e = merge_once a b f.follows (ends_stay q f) g.follows (ends_stay r g) in (ap (λ (x : List PlainProcess). merged x ∷ []) e.0, e.1)
  choices_once {q = q} (choices_last a) (choices_more {b = w} {us = us} b h d) f g =
      let e = merge_once a b f.follows (ends_stay q f) (at_plus w us h) (stays_plus w us h) in absurd (f.plus (moved Plus (sym e.1) h))
  choices_once {r = r} (choices_more {b = w} {us = us} a h c) (choices_last b) f g =
      let e = merge_once a b (at_plus w us h) (stays_plus w us h) g.follows (ends_stay r g) in absurd (g.plus (moved Plus e.1 h))
  choices_once (choices_more {ps = ps} {qs = qs} {b = w} {us = us} a h c) (choices_more {ps = ps'} {b = v} {us = vs} b k d) f g =
      let e = merge_once a b (at_plus w us h) (stays_plus w us h) (at_plus v vs k) (stays_plus v vs k) in
      let z = choices_once c (choices_from (tails e.1) d) f g in
      (ap (λ (x : List PlainProcess). merged x ∷ qs) e.0 ∙ ap (λ (x : List PlainProcess). merged ps' ∷ x) z.0, z.1)

pub process_once : {text : List ℕ} {p o : PlainProcess} {ts q r : List Token} → SpellsProcess text p ts q → SpellsProcess text o ts r → Ends q → Ends r → (p ≡ o) × (q ≡ r)
process_once (spells_process a) (spells_process b) f g = let e = choices_once a b f g in (ap (λ (x : List PlainProcess). chosen x) e.0, e.1)
