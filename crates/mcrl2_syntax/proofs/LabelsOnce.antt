-- No front of the same tokens is read as two actions, labels, calls or operators.
use Rattle.std.proofs.Common.{◌≡◌, ◌≢◌, ℕ, zero, suc, List, ◌∷◌, refl, ap, sym, ◌∙◌, subst}
use Rattle.mcrl2_lexer.specs.declared.kind.Kind.{Kind}
use Rattle.mcrl2_lexer.specs.declared.kind.Kind.TheVariants.{Identifier, LeftParen, RightParen, RightBrace, Comma, Colon, Equals, Bar, Arrow}
use Rattle.mcrl2_lexer.specs.declared.token.Token.{Token}
use Rattle.mcrl2_syntax.specs.Words.{PlainWord, Begins, span_of, joined}
use Rattle.mcrl2_syntax.specs.SortTrees.{PlainSort}
use Rattle.mcrl2_syntax.specs.DataTrees.{PlainData, named, data_span}
use Rattle.mcrl2_syntax.specs.ProcessParts.{PlainAction, named_action, PlainAssignment, PlainNameSet, PlainRenaming, PlainCommRule, PlainVarGroup, PlainLabel}
use Rattle.mcrl2_syntax.specs.ProcessTrees.{PlainProcess, call}
use Rattle.mcrl2_syntax.specs.SpelledWords.{token_word, SpellsName, a_name, SpellsList, last_item, more_items, SpellsBraces, no_items, some_items}
use Rattle.mcrl2_syntax.specs.SpelledSorts.{SpellsSort}
use Rattle.mcrl2_syntax.specs.SpelledData.{SpellsLevel, level_unit, level_chain, tail_end, unit_name, SpellsItems, items_last, items_more}
use Rattle.mcrl2_syntax.specs.SpelledLabels.{SpellsAction, action_tau, action_name, action_applied, SpellsActions, label_from, SpellsLabel, label_actions, SpellsAssignment, assignment, SpellsCall, call_empty, call_assigns, name_set, SpellsNameSet, names_at_once, SpellsRenaming, renaming, comm_rule, SpellsCommRule, communication, var_group, SpellsVarGroup, variables, SpellsVars, Operation, allowing, blocking, hiding, renamed_by, communicating, SpellsOperation, spells_allow, spells_block, spells_hide, spells_rename, spells_comm}
use Rattle.mcrl2_syntax.proofs.Lists.{heads, tails, moved, name_once, names_once, list_once, items_once as listed_once}
use Rattle.mcrl2_syntax.proofs.SortsOnce.{sort_once}
use Rattle.mcrl2_syntax.specs.Follow.{Stops, NoAction}
use Rattle.mcrl2_syntax.proofs.DataOnce.{stops_at, stops_comma, closed_paren, items_once, level_once, items_paren}

-- what stands behind a sign doesn't begin with another one
pub no_other : (k l : Kind) (t : Token) (ts : List Token) → t.kind ≡ k → k ≢ l → Begins l (t ∷ ts) → ⊥
no_other k l t ts e n f = n (sym e ∙ f)

pub action_once : {text : List ℕ} {a b : PlainAction} {ts q r : List Token} → SpellsAction text a ts q → SpellsAction text b ts r → (Begins LeftParen q → ⊥) → (Begins LeftParen r → ⊥) → (a ≡ b) × (q ≡ r)
action_once (action_tau h) (action_tau k) f g = (refl, refl)
action_once (action_tau h) (action_name k) f g = absurd cc
action_once (action_tau h) (action_applied k l b m) f g = absurd cc
action_once (action_name h) (action_tau k) f g = absurd cc
action_once (action_name h) (action_name k) f g = (refl, refl)
action_once (action_name h) (action_applied k l b m) f g = absurd (f l)
action_once (action_applied h i a j) (action_tau k) f g = absurd cc
action_once (action_applied h i a j) (action_name k) f g = absurd (g i)
action_once {text = text} (action_applied {t = x} {v = v} {ds = ds} {r = q} h i a j) (action_applied {v = w} {ds = es} {r = r} k l b m) f g =
    let e = items_once a b (closed_paren v q j) (closed_paren w r m) in
    (ap (λ (y : Token). named_action (span_of x y) (token_word text x) ds) (heads e.1) ∙ ap (λ (y : List PlainData). named_action (span_of x w) (token_word text x) y) e.0, tails e.1)

abbrev pub NoParen : List Token → Type 0
NoParen r = Begins LeftParen r → ⊥

pub bar_paren : (t : Token) (ts : List Token) → t.kind ≡ Bar → NoParen (t ∷ ts)
bar_paren t ts e = no_other Bar LeftParen t ts e (λ f. cc)

pub actions_once : {text : List ℕ} {xs ys : List PlainAction} {ts q r : List Token} → SpellsActions text xs ts q → SpellsActions text ys ts r → NoAction q → NoAction r → (xs ≡ ys) × (q ≡ r)
actions_once a b s t = list_once NoParen (λ x y us v w c d m n. action_once c d m n) bar_paren a b s.paren t.paren s.bar t.bar

pub label_once : {text : List ℕ} {x y : PlainLabel} {ts q r : List Token} → SpellsLabel text x ts q → SpellsLabel text y ts r → NoAction q → NoAction r → (x ≡ y) × (q ≡ r)
label_once (label_actions a) (label_actions b) s t = let e = actions_once a b s t in (ap (λ (z : List PlainAction). label_from z) e.0, e.1)

pub assignment_once : {text : List ℕ} {x y : PlainAssignment} {ts q r : List Token} → SpellsAssignment text x ts q → SpellsAssignment text y ts r → Stops 11 q → Stops 11 r → (x ≡ y) × (q ≡ r)
assignment_once {text = text} (assignment {t = t} h i a) (assignment k j b) s n =
    let e = level_once a b s n in
    let made : PlainData → PlainAssignment = λ d. record { span = joined (span_of t t) (data_span d); name = token_word text t; value = d } in
    (ap made e.0, e.1)

-- an expression that is a name with `=` behind it
pub level_name : {text : List ℕ} {t : Token} {ts : List Token} (k : ℕ) → t.kind ≡ Identifier → (d : PlainData) × SpellsLevel text k d (t ∷ ts) ts
level_name {text = text} {t = t} zero h = (named (token_word text t), level_unit (unit_name h))
level_name {text = text} {t = t} {ts = ts} (suc k) h = let d = level_name {text = text} {t = t} {ts = ts} k h in (_, level_chain d.1 tail_end)

pub equals_stop : (t : Token) (ts : List Token) → t.kind ≡ Equals → Stops 11 (t ∷ ts)
equals_stop t ts e = stops_at Equals (λ f. cc) refl 11 t ts e

pub before_equals : {text : List ℕ} {d : PlainData} {t e : Token} {ts r : List Token} → SpellsLevel text 11 d (t ∷ e ∷ ts) r → t.kind ≡ Identifier → e.kind ≡ Equals → Stops 11 r → Begins Equals r
before_equals {text = text} {t = t} {e = e} {ts = ts} a h i s =
    moved Equals (level_once (level_name {text = text} {t = t} {ts = e ∷ ts} 11 h).1 a (equals_stop e ts i) s).1 i

-- arguments aren't assignments
items_assign : {text : List ℕ} {ds : List PlainData} {x : PlainAssignment} {ts q r : List Token} {v : Token} → SpellsItems text ds ts (v ∷ q) → v.kind ≡ RightParen → SpellsAssignment text x ts r → ⊥
items_assign {q = q} {v = v} (items_last a) k (assignment h i b) = let e : Equals ≡ RightParen = sym (before_equals a h i (closed_paren v q k).stops) ∙ k in cc
items_assign (items_more {v = w} {us = us} a l c) k (assignment h i b) = let e : Equals ≡ Comma = sym (before_equals a h i (stops_comma 11 w us l)) ∙ l in cc

pub items_assigns : {text : List ℕ} {ds : List PlainData} {xs : List PlainAssignment} {ts q r : List Token} {v : Token} → SpellsItems text ds ts (v ∷ q) → v.kind ≡ RightParen
    → SpellsList (SpellsAssignment text) Comma xs ts r → ⊥
items_assigns a k (last_item b) = items_assign a k b
items_assigns a k (more_items b h c) = items_assign a k b

pub assigns_paren : {text : List ℕ} {xs : List PlainAssignment} {t : Token} {ts r : List Token} → SpellsList (SpellsAssignment text) Comma xs (t ∷ ts) r → t.kind ≡ RightParen → ⊥
assigns_paren (last_item (assignment h i a)) e = cc
assigns_paren (more_items (assignment h i a) k c) e = cc

pub items_call : {text : List ℕ} {ds : List PlainData} {p : PlainProcess} {t u v : Token} {ts q r : List Token} → SpellsItems text ds ts (v ∷ q) → v.kind ≡ RightParen → SpellsCall text p (t ∷ u ∷ ts) r → ⊥
items_call a k (call_empty h i j) = items_paren a j
items_call a k (call_assigns h i b j) = items_assigns a k b

pub action_call : {text : List ℕ} {a : PlainAction} {p : PlainProcess} {ts q r : List Token} → SpellsAction text a ts q → SpellsCall text p ts r → (Begins LeftParen q → ⊥) → ⊥
action_call (action_tau h) (call_empty k l m) f = cc
action_call (action_tau h) (call_assigns k l b m) f = cc
action_call (action_name h) (call_empty k l m) f = f l
action_call (action_name h) (call_assigns k l b m) f = f l
action_call (action_applied h i a j) (call_empty k l m) f = items_paren a m
action_call (action_applied h i a j) (call_assigns k l b m) f = items_assigns a j b

pub comma_stop : (t : Token) (ts : List Token) → t.kind ≡ Comma → Stops 11 (t ∷ ts)
comma_stop t ts e = stops_comma 11 t ts e

pub call_once : {text : List ℕ} {p o : PlainProcess} {ts q r : List Token} → SpellsCall text p ts q → SpellsCall text o ts r → (p ≡ o) × (q ≡ r)
call_once (call_empty h i j) (call_empty k l m) = (refl, refl)
call_once (call_empty h i j) (call_assigns k l b m) = absurd (assigns_paren b j)
call_once (call_assigns h i a j) (call_empty k l m) = absurd (assigns_paren a m)
call_once {text = text} (call_assigns {t = x} {v = v} {xs = xs} {r = q} h i a j) (call_assigns {v = w} {xs = ys} {r = r} k l b m) =
    let e = list_once (Stops 11) (λ y z us u o c d s n. assignment_once c d s n) comma_stop a b (closed_paren v q j).stops (closed_paren w r m).stops
    (closed_paren v q j).comma (closed_paren w r m).comma in
    (ap (λ (y : Token). call (span_of x y) (token_word text x) xs) (heads e.1) ∙ ap (λ (y : List PlainAssignment). call (span_of x w) (token_word text x) y) e.0, tails e.1)

-- items in braces
pub braces_once : {Item : Type 0} {spells : Item → List Token → List Token → Type 0} {xs ys : List Item} {ts q r : List Token} (Stop : List Token → Type 0)
    → ((a b : Item) (us v w : List Token) → spells a us v → spells b us w → Stop v → Stop w → (a ≡ b) × (v ≡ w))
    → ((t : Token) (us : List Token) → t.kind ≡ Comma → Stop (t ∷ us)) → ((t : Token) (us : List Token) → t.kind ≡ RightBrace → Stop (t ∷ us))
    → ((a : Item) (t : Token) (us v : List Token) → spells a (t ∷ us) v → t.kind ≡ Identifier)
    → SpellsBraces spells xs ts q → SpellsBraces spells ys ts r → (xs ≡ ys) × (q ≡ r)
braces_once Stop once at shut opens (no_items h i) (no_items k l) = (refl, refl)
braces_once Stop once at shut opens (no_items {v = v} {r = us} h i) (some_items {items = xs} k (last_item {item = x} {r = r} b) l) = let e : v.kind ≡ Identifier = opens x v us r b in absurd cc
braces_once Stop once at shut opens (no_items {v = v} {r = us} h i) (some_items k (more_items {item = x} {sign = w} {us = vs} b m c) l) = let e : v.kind ≡ Identifier = opens x v us (w ∷ vs) b in absurd cc
braces_once Stop once at shut opens (some_items h (last_item {item = x} {r = r} a) i) (no_items {v = v} {r = us} k l) = let e : v.kind ≡ Identifier = opens x v us r a in absurd cc
braces_once Stop once at shut opens (some_items h (more_items {item = x} {sign = w} {us = vs} a m c) i) (no_items {v = v} {r = us} k l) = let e : v.kind ≡ Identifier = opens x v us (w ∷ vs) a in absurd cc
braces_once Stop once at shut opens (some_items {v = v} {r = q} h a i) (some_items {v = w} {r = r} k b l) =
    let e = list_once Stop once at a b (shut v q i) (shut w r l) (no_other RightBrace Comma v q i (λ f. cc)) (no_other RightBrace Comma w r l (λ f. cc)) in
    (e.0, tails e.1)

abbrev pub NoBar : List Token → Type 0
NoBar r = Begins Bar r → ⊥

pub name_opens : {text : List ℕ} (a : PlainWord) (t : Token) (us v : List Token) → SpellsName text a (t ∷ us) v → t.kind ≡ Identifier
name_opens a t us v (a_name h) = h

pub name_set_once : {text : List ℕ} {x y : PlainNameSet} {ts q r : List Token} → SpellsNameSet text x ts q → SpellsNameSet text y ts r → NoBar q → NoBar r → (x ≡ y) × (q ≡ r)
name_set_once (names_at_once a) (names_at_once b) s t = let e = names_once a b s t in (ap (λ (z : List PlainWord). name_set z) e.0, e.1)

pub name_set_opens : {text : List ℕ} (a : PlainNameSet) (t : Token) (us v : List Token) → SpellsNameSet text a (t ∷ us) v → t.kind ≡ Identifier
name_set_opens a t us v (names_at_once (last_item (a_name h))) = h
name_set_opens a t us v (names_at_once (more_items (a_name h) k c)) = h

pub renaming_once : {text : List ℕ} {x y : PlainRenaming} {ts q r : List Token} → SpellsRenaming text x ts q → SpellsRenaming text y ts r → (x ≡ y) × (q ≡ r)
renaming_once (renaming h i j) (renaming k l m) = (refl, refl)

pub renaming_opens : {text : List ℕ} (a : PlainRenaming) (t : Token) (us v : List Token) → SpellsRenaming text a (t ∷ us) v → t.kind ≡ Identifier
renaming_opens a t us v (renaming h i j) = h

pub comm_rule_once : {text : List ℕ} {x y : PlainCommRule} {ts q r : List Token} → SpellsCommRule text x ts q → SpellsCommRule text y ts r → (x ≡ y) × (q ≡ r)
comm_rule_once {text = text} (communication {t = t} {a = a} {u = u} {names = xs} {r = q} h i c j k) (communication {a = b} {u = v} {names = ys} {r = r} l m d n o) =
    let e = names_once c d (no_other Arrow Bar a (u ∷ q) j (λ f. cc)) (no_other Arrow Bar b (v ∷ r) n (λ f. cc)) in
    let f = tails e.1 in
    (ap (λ (y : List PlainWord). comm_rule (token_word text t) y (token_word text u)) e.0 ∙ ap (λ (y : Token). comm_rule (token_word text t) ys (token_word text y)) (heads f), tails f)

pub comm_rule_opens : {text : List ℕ} (a : PlainCommRule) (t : Token) (us v : List Token) → SpellsCommRule text a (t ∷ us) v → t.kind ≡ Identifier
comm_rule_opens a t us v (communication h i c j k) = h

pub sort_from : {text : List ℕ} {s : PlainSort} {ts us r : List Token} → ts ≡ us → SpellsSort text s us r → SpellsSort text s ts r
sort_from {text = text} {s = s} {r = r} e d = subst (λ (x : List Token). SpellsSort text s x r) (sym e) d

pub var_group_once : {text : List ℕ} {x y : PlainVarGroup} {ts q r : List Token} → SpellsVarGroup text x ts q → SpellsVarGroup text y ts r → (x ≡ y) × (q ≡ r)
var_group_once (variables {names = xs} {s = s} {c = c} {us = us} a h b) (variables {names = ys} {s = o} {c = d} {us = vs} e k f) =
    let n = names_once a e (no_other Colon Comma c us h (λ g. cc)) (no_other Colon Comma d vs k (λ g. cc)) in
    let m = sort_once b (sort_from (tails n.1) f) in
    (ap (λ (y : List PlainWord). var_group y s) n.0 ∙ ap (λ (y : PlainSort). var_group ys y) m.0, m.1)

pub vars_once : {text : List ℕ} {xs ys : List PlainVarGroup} {ts q r : List Token} → SpellsVars text xs ts q → SpellsVars text ys ts r → (Begins Comma q → ⊥) → (Begins Comma r → ⊥) → (xs ≡ ys) × (q ≡ r)
vars_once a b m n = listed_once (λ x y us v w c d. var_group_once c d) a b m n

abbrev Anything : List Token → Type 0
Anything r = Unit {0}

pub comma_bar : (t : Token) (ts : List Token) → t.kind ≡ Comma → NoBar (t ∷ ts)
comma_bar t ts e = no_other Comma Bar t ts e (λ f. cc)

pub brace_bar : (t : Token) (ts : List Token) → t.kind ≡ RightBrace → NoBar (t ∷ ts)
brace_bar t ts e = no_other RightBrace Bar t ts e (λ f. cc)

pub operation_once : {text : List ℕ} {o p : Operation} {ts q r : List Token} → SpellsOperation text o ts q → SpellsOperation text p ts r → (o ≡ p) × (q ≡ r)
operation_once (spells_allow h i a j) (spells_allow k l b m) =
    let e = braces_once NoBar (λ x y us v w c d s t. name_set_once c d s t) comma_bar brace_bar name_set_opens a b in (ap (λ (y : List PlainNameSet). allowing y) e.0, tails e.1)
operation_once (spells_allow h i a j) (spells_block k l b m) = absurd cc
operation_once (spells_allow h i a j) (spells_hide k l b m) = absurd cc
operation_once (spells_allow h i a j) (spells_rename k l b m) = absurd cc
operation_once (spells_allow h i a j) (spells_comm k l b m) = absurd cc
operation_once (spells_block h i a j) (spells_block k l b m) =
    let e = braces_once Anything (λ x y us v w c d s t. name_once c d) (λ t us f. tt) (λ t us f. tt) name_opens a b in (ap (λ (y : List PlainWord). blocking y) e.0, tails e.1)
operation_once (spells_block h i a j) (spells_allow k l b m) = absurd cc
operation_once (spells_block h i a j) (spells_hide k l b m) = absurd cc
operation_once (spells_block h i a j) (spells_rename k l b m) = absurd cc
operation_once (spells_block h i a j) (spells_comm k l b m) = absurd cc
operation_once (spells_hide h i a j) (spells_hide k l b m) =
    let e = braces_once Anything (λ x y us v w c d s t. name_once c d) (λ t us f. tt) (λ t us f. tt) name_opens a b in (ap (λ (y : List PlainWord). hiding y) e.0, tails e.1)
operation_once (spells_hide h i a j) (spells_allow k l b m) = absurd cc
operation_once (spells_hide h i a j) (spells_block k l b m) = absurd cc
operation_once (spells_hide h i a j) (spells_rename k l b m) = absurd cc
operation_once (spells_hide h i a j) (spells_comm k l b m) = absurd cc
operation_once (spells_rename h i a j) (spells_rename k l b m) =
    let e = braces_once Anything (λ x y us v w c d s t. renaming_once c d) (λ t us f. tt) (λ t us f. tt) renaming_opens a b in (ap (λ (y : List PlainRenaming). renamed_by y) e.0, tails e.1)
operation_once (spells_rename h i a j) (spells_allow k l b m) = absurd cc
operation_once (spells_rename h i a j) (spells_block k l b m) = absurd cc
operation_once (spells_rename h i a j) (spells_hide k l b m) = absurd cc
operation_once (spells_rename h i a j) (spells_comm k l b m) = absurd cc
operation_once (spells_comm h i a j) (spells_comm k l b m) =
    let e = braces_once Anything (λ x y us v w c d s t. comm_rule_once c d) (λ t us f. tt) (λ t us f. tt) comm_rule_opens a b in (ap (λ (y : List PlainCommRule). communicating y) e.0, tails e.1)
operation_once (spells_comm h i a j) (spells_allow k l b m) = absurd cc
operation_once (spells_comm h i a j) (spells_block k l b m) = absurd cc
operation_once (spells_comm h i a j) (spells_hide k l b m) = absurd cc
operation_once (spells_comm h i a j) (spells_rename k l b m) = absurd cc
