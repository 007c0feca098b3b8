-- What the exits of the readers of sums and conditions stand on.
use Rattle.std.proofs.Common.{◌≡◌, ℕ, Bool, true, false, List, [], ◌∷◌, refl, ap, sym, ◌∙◌, subst}
use Rattle.mcrl2_lexer.specs.declared.kind.Kind.TheVariants.{Sum, Dot, Comma, Arrow, Else}
use Rattle.mcrl2_lexer.specs.declared.token.Token.{Token}
use Rattle.mcrl2_syntax.specs.declared.word.Span.{Span}
use Rattle.mcrl2_syntax.specs.Words.{Begins, span_of, joined}
use Rattle.mcrl2_syntax.specs.DataTrees.{PlainData, data_span}
use Rattle.mcrl2_syntax.specs.ProcessParts.{PlainVarGroup}
use Rattle.mcrl2_syntax.specs.ProcessTrees.{PlainProcess, sum, when, either, process_span}
use Rattle.mcrl2_syntax.specs.SpelledLabels.{SpellsVars}
use Rattle.mcrl2_syntax.specs.SpelledProcesses.{merged, SpellsAtom, atom_delta, atom_action, atom_call, atom_brackets, atom_operator, SpellsMulti, multi_last, multi_more, SpellsOperand, SpellsSum, sum_over, SpellsCond, cond_then, cond_else, SpellsMerge}
use Rattle.mcrl2_syntax.specs.Follow.{NoAction, Follows, Stays}
use Rattle.mcrl2_syntax.proofs.Lists.{tails, moved}
use Rattle.mcrl2_syntax.proofs.LabelsOnce.{no_other}
use Rattle.mcrl2_syntax.proofs.ProcessesOnce.{at_else, stays_else, then_stays, guard_once, operand_from, merge_from, sum_unit, unit_apart, unit_atom, at_bar, class, apart, action_class, call_class, operation_class}
use Rattle.mcrl2_parser.specs.ProcessReading.{SpellsGuard, spells_guard, SpellsLast, last_sum, last_cond, FindsLast, FindsOperand, FindsMerge}
use Rattle.mcrl2_parser.proofs.ProcessChains.{OnlyMerge, OnlyOperand}

-- the parts of a sum
pub record IsSum (text : List ℕ) (o : Bool) (t : Token) (p : PlainProcess) (us r : List Token) : Type 0 where
  pub variables : List PlainVarGroup
  pub dot : Token
  pub behind : List Token
  pub parts : List PlainProcess
  pub tree : p ≡ sum (joined (span_of t t) (process_span (merged parts))) variables (merged parts)
  pub vars : SpellsVars text variables us (dot ∷ behind)
  pub dotted : dot.kind ≡ Dot
  pub inner : SpellsMerge text o parts behind r

pub sum_begins : {text : List ℕ} {o : Bool} {p : PlainProcess} {ts r : List Token} → SpellsSum text o p ts r → Begins Sum ts
sum_begins (sum_over h a i b) = h

pub of_sum : {text : List ℕ} {o : Bool} {p : PlainProcess} {t : Token} {ts us r : List Token} → ts ≡ t ∷ us → SpellsSum text o p ts r → IsSum text o t p us r
of_sum e a = begun (rw e at a)
  where
    begun : {text : List ℕ} {o : Bool} {p : PlainProcess} {t : Token} {us r : List Token} → SpellsSum text o p (t ∷ us) r → IsSum text o t p us r
    begun (sum_over {y = y} {xs = xs} {ps = ps} {us = us} h a i b) = record { variables = xs; dot = y; behind = us; parts = ps; tree = refl; vars = a; dotted = i; inner = b }

-- from one span to another
pub between : {at head tail front back : Span} → at ≡ joined head tail → head ≡ front → tail ≡ back → at ≡ joined front back
between {head = head} {tail = tail} {front = front} e f g = e ∙ ap (λ (x : Span). joined x tail) f ∙ ap (λ (x : Span). joined front x) g

pub sum_found : {text : List ℕ} {gs : List PlainVarGroup} {q x : PlainProcess} {at : Span} {t y : Token} {ts us vs ws r : List Token} → x ≡ sum at gs q → at ≡ joined (span_of t t) (process_span q)
    → ts ≡ t ∷ us → t.kind ≡ Sum → SpellsVars text gs us vs → vs ≡ y ∷ ws → y.kind ≡ Dot → FindsMerge text q ws r → FindsLast text x ts r
sum_found x i e h a f k found = rw (x, i, e, found.tree) (record {
  s = true;
  o = found.o;
  is = last_sum (sum_over h (rw f at a) k found.is);
  stays = found.stays;
  dot = found.dot;
})

abbrev pub OnlyVars : List ℕ → List PlainVarGroup → List Token → List Token → Type 0
OnlyVars text gs ts us = (hs : List PlainVarGroup) (r : List Token) → SpellsVars text hs ts r → (Begins Comma r → ⊥) → (gs ≡ hs) × (us ≡ r)

no_comma : (y : Token) (ws : List Token) → y.kind ≡ Dot → Begins Comma (y ∷ ws) → ⊥
no_comma y ws h = no_other Dot Comma y ws h (λ e. cc)

vars_same : {text : List ℕ} {o : Bool} {gs : List PlainVarGroup} {t : Token} {p : PlainProcess} {us vs r : List Token} → OnlyVars text gs us vs → (a : IsSum text o t p us r) → (gs ≡ a.variables) × (vs ≡ a.dot ∷ a.behind)
vars_same only a = only a.variables (a.dot ∷ a.behind) a.vars (no_comma a.dot a.behind a.dotted)

pub dot_err : {text : List ℕ} {o : Bool} {gs : List PlainVarGroup} {t : Token} {p : PlainProcess} {us vs r : List Token} → OnlyVars text gs us vs → (Begins Dot vs → ⊥) → IsSum text o t p us r → ⊥
dot_err only n a = n (moved Dot (sym (vars_same only a).1) a.dotted)

pub sum_only : {text : List ℕ} {o : Bool} {gs : List PlainVarGroup} {t y : Token} {p q x : PlainProcess} {at : Span} {us vs ws end r : List Token} → x ≡ sum at gs q → at ≡ joined (span_of t t) (process_span q)
    → OnlyVars text gs us vs → vs ≡ y ∷ ws → OnlyMerge text q ws end → IsSum text o t p us r → Follows r → Stays true o r → (x ≡ p) × (end ≡ r)
sum_only {o = o} {gs = gs} {t = t} {q = q} {r = r} x i first e only a f n =
    let variables = vars_same first a in
    let same = only o a.parts r (merge_from (tails (sym e ∙ variables.1)) a.inner) f n in
    let made : List PlainVarGroup → PlainProcess → PlainProcess = λ hs z. sum (joined (span_of t t) (process_span z)) hs z in (
      x ∙ ap (λ (z : Span). sum z gs q) i ∙ ap (λ (z : List PlainVarGroup). made z q) variables.0 ∙ ap (made a.variables) same.0 ∙ sym a.tree,
      same.1,
    )

-- what stands behind the arrow of a condition
pub data IsGuarded (text : List ℕ) (c : PlainData) : Bool → Bool → PlainProcess → List Token → List Token → Type 0 where
  guarded_then : {s o : Bool} {p : PlainProcess} {us r : List Token} → SpellsOperand text s o p us r → IsGuarded text c s true (when (joined (data_span c) (process_span p)) c p) us r
  guarded_else : {s o z : Bool} {p q : PlainProcess} {e : Token} {us vs r : List Token} → SpellsOperand text z false p us (e ∷ vs) → e.kind ≡ Else → SpellsOperand text s o q vs r
      → IsGuarded text c s o (either (joined (data_span c) (process_span q)) c p q) us r

moved_then : {text : List ℕ} {s o : Bool} {c d : PlainData} {p : PlainProcess} {us vs r : List Token} → c ≡ d → us ≡ vs → SpellsOperand text s o p vs r
    → IsGuarded text c s true (when (joined (data_span d) (process_span p)) d p) us r
moved_then {text = text} {s = s} {c = c} {p = p} {us = us} {r = r} e f a =
    subst (λ (x : PlainData). IsGuarded text c s true (when (joined (data_span x) (process_span p)) x p) us r) e (guarded_then (operand_from f a))

moved_else : {text : List ℕ} {s o z : Bool} {c d : PlainData} {p q : PlainProcess} {w : Token} {us vs ws r : List Token} → c ≡ d → us ≡ vs → SpellsOperand text z false p vs (w ∷ ws) → w.kind ≡ Else
    → SpellsOperand text s o q ws r → IsGuarded text c s o (either (joined (data_span d) (process_span q)) d p q) us r
moved_else {text = text} {s = s} {o = o} {c = c} {p = p} {q = q} {us = us} {r = r} e f a h b =
    subst (λ (x : PlainData). IsGuarded text c s o (either (joined (data_span x) (process_span q)) x p q) us r) e (guarded_else (operand_from f a) h b)

pub of_guard : {text : List ℕ} {s o : Bool} {c : PlainData} {p : PlainProcess} {ts us r : List Token} → SpellsGuard text c ts us → SpellsCond text s o p ts r → IsGuarded text c s o p us r
of_guard (spells_guard u k) (cond_then v h b) = let g = guard_once u k v h in moved_then g.0 g.1 b
of_guard (spells_guard u k) (cond_else v h b l d) = let g = guard_once u k v h in moved_else g.0 g.1 b l d

pub then_err : (Q : Type 0) {text : List ℕ} {s o : Bool} {c : PlainData} {p : PlainProcess} {us r : List Token} → ((s o : Bool) (q : PlainProcess) (v : List Token) → SpellsOperand text s o q us v → Follows v → Stays s o v → Q)
    → IsGuarded text c s o p us r → Follows r → Stays s o r → Q
then_err Q {r = r} f (guarded_then {s = s} {o = o} {p = p} a) g t = f s o p r a g (then_stays t)
then_err Q f (guarded_else {z = z} {p = p} {e = e} {vs = vs} a h b) g t = f z false p (e ∷ vs) a (at_else e vs h) (stays_else e vs h)

pub then_only : {text : List ℕ} {s o : Bool} {c : PlainData} {p q x : PlainProcess} {at : Span} {us rest r : List Token} → OnlyOperand text q us rest → (Begins Else rest → ⊥) → x ≡ when at c q
    → at ≡ joined (data_span c) (process_span q) → IsGuarded text c s o p us r → Follows r → Stays s o r → (x ≡ p) × (rest ≡ r)
then_only {c = c} {q = q} {r = r} only n i j (guarded_then {s = s} {o = o} {p = p} a) g t =
    let same = only s o p r a g (then_stays t) in
    (i ∙ ap (λ (z : Span). when z c q) j ∙ ap (λ (z : PlainProcess). when (joined (data_span c) (process_span z)) c z) same.0, same.1)
then_only only n i j (guarded_else {z = z} {p = p} {e = w} {vs = vs} a h b) g t = absurd (n (moved Else (sym (only z false p (w ∷ vs) a (at_else w vs h) (stays_else w vs h)).1) h))

-- a condition without `<>` isn't what goes on with one
no_else : {text : List ℕ} {s o : Bool} {p q : PlainProcess} {us rest after r : List Token} {w : Token} → OnlyOperand text q us rest → rest ≡ w ∷ after → w.kind ≡ Else → SpellsOperand text s o p us r → Follows r
    → Stays s true r → ⊥
no_else {s = s} {o = o} {p = p} {r = r} only e k a g t = t.open_ends refl (subst (Begins Else) (sym e ∙ (only s o p r a g (then_stays t)).1) k)

pub else_err : (Q : Type 0) {text : List ℕ} {s o : Bool} {c : PlainData} {p q : PlainProcess} {us rest after r : List Token} {w : Token} → OnlyOperand text q us rest → rest ≡ w ∷ after → w.kind ≡ Else
    → ((s o : Bool) (q : PlainProcess) (v : List Token) → SpellsOperand text s o q after v → Follows v → Stays s o v → Q) → IsGuarded text c s o p us r → Follows r → Stays s o r → Q
else_err Q only e k f (guarded_then a) g t = absurd (no_else only e k a g t)
else_err Q {r = r} only e k f (guarded_else {s = s} {o = o} {z = z} {p = p} {q = q} {e = v} {vs = vs} a i b) g t =
    f s o q r (operand_from (tails (sym e ∙ (only z false p (v ∷ vs) a (at_else v vs i) (stays_else v vs i)).1)) b) g t

pub else_only : {text : List ℕ} {s o : Bool} {c : PlainData} {p q y x : PlainProcess} {at : Span} {us rest after end r : List Token} {w : Token} → OnlyOperand text q us rest → rest ≡ w ∷ after → w.kind ≡ Else
    → OnlyOperand text y after end → x ≡ either at c q y → at ≡ joined (data_span c) (process_span y) → IsGuarded text c s o p us r → Follows r → Stays s o r → (x ≡ p) × (end ≡ r)
else_only only e k next i j (guarded_then a) g t = absurd (no_else only e k a g t)
else_only {c = c} {q = u} {y = y} {r = r} only e k next i j (guarded_else {s = s} {o = o} {z = z} {p = p} {q = q} {e = v} {vs = vs} a l b) g t =
    let same = only z false p (v ∷ vs) a (at_else v vs l) (stays_else v vs l) in
    let other = next s o q r (operand_from (tails (sym e ∙ same.1)) b) g t in
    let made : PlainProcess → PlainProcess → PlainProcess = λ m n. either (joined (data_span c) (process_span n)) c m n in
    (i ∙ ap (λ (z : Span). either z c u y) j ∙ ap (λ (z : PlainProcess). made z y) same.0 ∙ ap (made p) other.0, other.1)

then_with : {text : List ℕ} {s o : Bool} {c : PlainData} {p : PlainProcess} {ts us r : List Token} → SpellsGuard text c ts us → SpellsOperand text s o p us r
    → SpellsCond text s true (when (joined (data_span c) (process_span p)) c p) ts r
then_with (spells_guard u k) a = cond_then u k a

pub then_found : {text : List ℕ} {c : PlainData} {q x : PlainProcess} {at : Span} {ts us rest : List Token} → SpellsGuard text c ts us → FindsOperand text q us rest → (Begins Else rest → ⊥) → x ≡ when at c q
    → at ≡ joined (data_span c) (process_span q) → FindsLast text x ts rest
then_found g found n i j = rw (i, j) (record { s = found.s; o = true; is = last_cond (then_with g found.is); stays = record { sum_ends = found.stays.sum_ends; left_ends = found.stays.left_ends; open_ends = λ e. n }; dot = found.dot })

else_with : {text : List ℕ} {s o z : Bool} {c : PlainData} {p q : PlainProcess} {e : Token} {ts us vs r : List Token} → SpellsGuard text c ts us → SpellsOperand text z false p us (e ∷ vs) → e.kind ≡ Else
    → SpellsOperand text s o q vs r → SpellsCond text s o (either (joined (data_span c) (process_span q)) c p q) ts r
else_with (spells_guard u k) a h b = cond_else u k a h b

-- an operand that ends in front of `<>` doesn't end in a condition without it
before_else : {text : List ℕ} {q : PlainProcess} {here end after : List Token} {w : Token} → (s o : Bool) → SpellsOperand text s o q here end → Stays s o end → end ≡ w ∷ after → w.kind ≡ Else
    → (z : Bool) × SpellsOperand text z false q here (w ∷ after)
before_else s true a t e h = absurd (t.open_ends refl (subst (Begins Else) (sym e) h))
before_else {text = text} {q = q} {here = here} s false a t e h = (s, subst (λ (x : List Token). SpellsOperand text s false q here x) e a)

pub else_found : {text : List ℕ} {c : PlainData} {q y x : PlainProcess} {at : Span} {ts us rest after end : List Token} {w : Token} → SpellsGuard text c ts us → FindsOperand text q us rest → rest ≡ w ∷ after → w.kind ≡ Else
    → FindsOperand text y after end → x ≡ either at c q y → at ≡ joined (data_span c) (process_span y) → FindsLast text x ts end
else_found g found f k next i j =
    let first = before_else found.s found.o found.is found.stays f k in
    rw (i, j) (record { s = next.s; o = next.o; is = last_cond (else_with g first.1 k next.is); stays = next.stays; dot = next.dot })

-- What a part is.
unit_sum : {text : List ℕ} {c : PlainData} {o : Bool} {p : PlainProcess} {ts us r : List Token} → SpellsGuard text c ts us → SpellsSum text o p ts r → ⊥
unit_sum (spells_guard u k) a = sum_unit a u

guard_of : {text : List ℕ} {s o : Bool} {p : PlainProcess} {ts r : List Token} → SpellsCond text s o p ts r → (c : PlainData) × (us : List Token) × SpellsGuard text c ts us
guard_of (cond_then {c = c} {us = us} u h b) = (c, us, spells_guard u h)
guard_of (cond_else {c = c} {us = us} u h b k d) = (c, us, spells_guard u h)

guard_sum : {text : List ℕ} {c : PlainData} {ts us : List Token} → SpellsGuard text c ts us → Begins Sum ts → ⊥
guard_sum {ts = []} g b = elim b [ ]
guard_sum {ts = t ∷ us} (spells_guard u k) b = unit_apart u (ap class b) (λ e. cc) (λ e. cc) (λ e. cc)

pub last_is_sum : {text : List ℕ} {s o : Bool} {p : PlainProcess} {ts r : List Token} → Begins Sum ts → SpellsLast text s o p ts r → Stays s o r → SpellsSum text o p ts r × Stays true o r
last_is_sum b (last_sum a) t = (a, t)
last_is_sum b (last_cond a) t = absurd (guard_sum (guard_of a).2 b)

pub last_is_cond : {text : List ℕ} {c : PlainData} {s o : Bool} {p : PlainProcess} {ts us r : List Token} → SpellsGuard text c ts us → SpellsLast text s o p ts r → SpellsCond text s o p ts r
last_is_cond g (last_sum a) = absurd (unit_sum g a)
last_is_cond g (last_cond a) = a

pub no_last : {text : List ℕ} {s o : Bool} {p : PlainProcess} {ts r : List Token} → (Begins Sum ts → ⊥) → ((c : PlainData) (us : List Token) → SpellsGuard text c ts us → ⊥) → SpellsLast text s o p ts r → ⊥
no_last n none (last_sum a) = n (sum_begins a)
no_last n none (last_cond a) = let g = guard_of a in none g.0 g.1 g.2

pub last_err : (Q : Type 0) {text : List ℕ} {s o : Bool} {p : PlainProcess} {ts r : List Token} → (Begins Sum ts → ⊥) → ((c : PlainData) (us : List Token) → SpellsGuard text c ts us → Q) → SpellsLast text s o p ts r → Q
last_err Q n f (last_sum a) = absurd (n (sum_begins a))
last_err Q n f (last_cond a) = let g = guard_of a in f g.0 g.1 g.2

pub no_multi : {text : List ℕ} {c : PlainData} {ps : List PlainProcess} {ts us r : List Token} → SpellsGuard text c ts us → SpellsMulti text ps ts r → NoAction r → (Begins Arrow r → ⊥) → ⊥
no_multi (spells_guard u k) (multi_last a) n b = unit_atom u k a (record { arrow = b; paren = n.paren })
no_multi (spells_guard u k) (multi_more {b = v} {us = vs} a h c) n b = unit_atom u k a (at_bar v vs h)

sum_atom : {text : List ℕ} {p : PlainProcess} {ts r : List Token} → Begins Sum ts → SpellsAtom text p ts r → ⊥
sum_atom {ts = []} b a = elim b [ ]
sum_atom {ts = t ∷ us} b a = begun b a
  where
    begun : {text : List ℕ} {p : PlainProcess} {t : Token} {us r : List Token} → t.kind ≡ Sum → SpellsAtom text p (t ∷ us) r → ⊥
    begun h (atom_delta k) = cc
    begun h (atom_action a) = apart (action_class a) (ap class h) (λ e. cc)
    begun h (atom_call a) = apart (call_class a) (ap class h) (λ e. cc)
    begun h (atom_brackets k a i) = cc
    begun h (atom_operator o a i) = apart (operation_class o) (ap class h) (λ e. cc)

pub no_sum : {text : List ℕ} {ps : List PlainProcess} {ts r : List Token} → Begins Sum ts → SpellsMulti text ps ts r → ⊥
no_sum b (multi_last a) = sum_atom b a
no_sum b (multi_more a h c) = sum_atom b a
