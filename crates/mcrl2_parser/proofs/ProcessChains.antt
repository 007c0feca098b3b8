-- What the loops over `+`, `||` and `.` stand on.
use Rattle.std.proofs.Common.{◌≡◌, ℕ, Bool, true, false, List, [], ◌∷◌, ◌++◌, refl, ap, sym, ◌∙◌, subst}
use Rattle.mcrl2_lexer.specs.declared.kind.Kind.{Kind}
use Rattle.mcrl2_lexer.specs.declared.kind.Kind.TheVariants.{Plus, BarBar, LeftMerge, Dot, Arrow}
use Rattle.mcrl2_lexer.specs.declared.token.Token.{Token}
use Rattle.mcrl2_syntax.specs.Words.{Begins}
use Rattle.mcrl2_syntax.specs.ProcessTrees.{PlainProcess}
use Rattle.mcrl2_syntax.specs.SpelledProcesses.{together, sequenced, merged, chosen, SpellsMulti, SpellsOperand, operand_sum, operand_cond, operand_parts, SpellsDots, dots_end, dots_atom, dots_sum, dots_cond, SpellsLeft, SpellsMerge, merge_last, merge_more, SpellsChoices, choices_last, choices_more, SpellsProcess, spells_process}
use Rattle.mcrl2_syntax.specs.Follow.{NoAction, Follows, Stays, Ends}
use Rattle.mcrl2_syntax.proofs.Lists.{tails, moved}
use Rattle.mcrl2_syntax.proofs.LabelsOnce.{no_other}
use Rattle.mcrl2_syntax.proofs.ProcessesOnce.{at_parallel, at_plus, stays_parallel, stays_plus, stays_any, ends_stay, alone, dots_from, merge_from, choices_from}
use Rattle.mcrl2_parser.specs.ProcessReading.{SpellsLast, last_sum, last_cond, FindsPart, finds_last, finds_multi, FindsOperand, FindsLeft, FindsMerge}
use Rattle.mcrl2_parser.proofs.ChainLeft.{ChainLeft, NextPart, chain_ends, chain_ends_only}

-- what begins with a sign doesn't become what doesn't
pub begins_here : (k : Kind) {w : Token} {after end r : List Token} → end ≡ w ∷ after → w.kind ≡ k → end ≡ r → Begins k r
begins_here k {w = w} {after = after} {r = r} e h f = subst (Begins k) f (subst (Begins k) (sym e) h)

-- Choices.
abbrev pub OnlyMerge : List ℕ → PlainProcess → List Token → List Token → Type 0
OnlyMerge text p ts us = (o : Bool) (ps : List PlainProcess) (r : List Token) → SpellsMerge text o ps ts r → Follows r → Stays true o r → (p ≡ merged ps) × (us ≡ r)

abbrev pub IsChoices : List ℕ → Unit {0} → List PlainProcess → List Token → List Token → Type 0
IsChoices text m = SpellsChoices text

abbrev pub EndsChoices : Unit {0} → List Token → Type 0
EndsChoices m = Ends

choices_put : {text : List ℕ} {q : PlainProcess} {here end after r : List Token} {w : Token} {ps : List PlainProcess} → FindsMerge text q here end → end ≡ w ∷ after → w.kind ≡ Plus → SpellsChoices text ps after r
    → SpellsChoices text (q ∷ ps) here r
choices_put {text = text} {here = here} found e h c =
    let first = subst (λ (x : List Token). SpellsMerge text found.o found.ps here x) e found.is in rw found.tree (choices_more first h c)

choices_take : {text : List ℕ} {q : PlainProcess} {here end after r : List Token} {w : Token} {ps : List PlainProcess} → OnlyMerge text q here end → end ≡ w ∷ after → w.kind ≡ Plus → SpellsChoices text ps here r → Ends r
    → (qs : List PlainProcess) × (ps ≡ q ∷ qs) × SpellsChoices text qs after r
choices_take {r = r} only e h (choices_last {o = o} {ps = ps} a) t = absurd (t.plus (begins_here Plus e h (only o ps r a t.follows (ends_stay r t)).1))
choices_take only e h (choices_more {o = o} {ps = ps} {qs = qs} {b = b} {us = us} a k c) t =
    let same = only o ps (b ∷ us) a (at_plus b us k) (stays_plus b us k) in
    (qs, ap (λ (x : PlainProcess). x ∷ qs) (sym same.0), choices_from (tails (sym e ∙ same.1)) c)

pub next_choice : {text : List ℕ} {q : PlainProcess} {here end after : List Token} {w : Token} → FindsMerge text q here end → OnlyMerge text q here end → end ≡ w ∷ after → w.kind ≡ Plus
    → NextPart (IsChoices text) EndsChoices here q after
next_choice found only e h = record { put = λ m ps r c. choices_put found e h c; take = λ m ps r c t. choices_take only e h c t }

last_choice : {text : List ℕ} {q : PlainProcess} {here end r : List Token} {ps : List PlainProcess} → OnlyMerge text q here end → (Begins Plus end → ⊥) → SpellsChoices text ps here r → Ends r → (ps ≡ q ∷ []) × (end ≡ r)
last_choice {r = r} only n (choices_last {o = o} {ps = ps} a) t = let same = only o ps r a t.follows (ends_stay r t) in (ap (λ (x : PlainProcess). x ∷ []) (sym same.0), same.1)
last_choice only n (choices_more {o = o} {ps = ps} {b = b} {us = us} a k c) t = absurd (n (moved Plus (sym (only o ps (b ∷ us) a (at_plus b us k) (stays_plus b us k)).1) k))

abbrev pub ChoicesLeft : List ℕ → List Token → List PlainProcess → List Token → Type 0
ChoicesLeft text = ChainLeft (IsChoices text) EndsChoices

pub choices_err : (Q : Type 0) {text : List ℕ} {front : List PlainProcess} {p : PlainProcess} {tokens here r : List Token} → ChoicesLeft text tokens front here
    → ((o : Bool) (ps : List PlainProcess) (v : List Token) → SpellsMerge text o ps here v → Follows v → Stays true o v → Q) → SpellsProcess text p tokens r → Ends r → Q
choices_err Q {text = text} {here = here} {r = r} left f (spells_process {ps = ps} a) t = first (left.only tt ps r a t).2
  where
    first : {ps : List PlainProcess} → SpellsChoices text ps here r → Q
    first (choices_last {o = o} {ps = ps} a) = f o ps r a t.follows (ends_stay r t)
    first (choices_more {o = o} {ps = ps} {b = b} {us = us} a k c) = f o ps (b ∷ us) a (at_plus b us k) (stays_plus b us k)

pub choices_found : {text : List ℕ} {front all : List PlainProcess} {q x : PlainProcess} {tokens here end : List Token} → ChoicesLeft text tokens front here → FindsMerge text q here end → all ≡ front ++ q ∷ [] → x ≡ chosen all
    → SpellsProcess text x tokens end
choices_found {text = text} {q = q} {here = here} {end = end} left found e i =
    let one : SpellsChoices text (q ∷ []) here end = rw found.tree (choices_last found.is) in
    rw i (spells_process (chain_ends (IsChoices text) EndsChoices tt left one e))

pub choices_only : {text : List ℕ} {front all : List PlainProcess} {p q x : PlainProcess} {tokens here end r : List Token} → ChoicesLeft text tokens front here → OnlyMerge text q here end → (Begins Plus end → ⊥)
    → all ≡ front ++ q ∷ [] → x ≡ chosen all → SpellsProcess text p tokens r → Ends r → (x ≡ p) × (end ≡ r)
choices_only {text = text} left only n e i (spells_process a) t =
    let same = chain_ends_only (IsChoices text) EndsChoices tt left (λ m ps r b s. last_choice only n b s) e a t in (i ∙ ap (λ (y : List PlainProcess). chosen y) same.0, same.1)

abbrev pub OnlyOperand : List ℕ → PlainProcess → List Token → List Token → Type 0
OnlyOperand text p ts us = (s o : Bool) (q : PlainProcess) (r : List Token) → SpellsOperand text s o q ts r → Follows r → Stays s o r → (p ≡ q) × (us ≡ r)

-- What stands between `||`.
abbrev pub OnlyLeft : List ℕ → PlainProcess → List Token → List Token → Type 0
OnlyLeft text p ts us = (s o : Bool) (q : PlainProcess) (r : List Token) → SpellsLeft text s o q ts r → Follows r → Stays s o r → (Begins LeftMerge r → ⊥) → (p ≡ q) × (us ≡ r)

not_left : (b : Token) (us : List Token) → b.kind ≡ BarBar → Begins LeftMerge (b ∷ us) → ⊥
not_left b us e = no_other BarBar LeftMerge b us e (λ f. cc)

abbrev pub EndsMerge : Bool → List Token → Type 0
EndsMerge o r = Follows r × Stays true o r

abbrev pub MergeLeft : List ℕ → List Token → List PlainProcess → List Token → Type 0
MergeLeft text = ChainLeft (SpellsMerge text) EndsMerge

-- what ends in front of `||` doesn't end in a sum
before_parallel : {text : List ℕ} {q : PlainProcess} {here end after : List Token} {w : Token} → (s o : Bool) → SpellsLeft text s o q here end → Stays s o end → end ≡ w ∷ after → w.kind ≡ BarBar
    → (z : Bool) × SpellsLeft text false z q here (w ∷ after)
before_parallel true o a t e h = absurd (t.sum_ends refl (subst (Begins BarBar) (sym e) h))
before_parallel {text = text} {q = q} {here = here} false o a t e h = (o, subst (λ (x : List Token). SpellsLeft text false o q here x) e a)

merge_put : {text : List ℕ} {q : PlainProcess} {here end after r : List Token} {w : Token} {o : Bool} {ps : List PlainProcess} → FindsLeft text q here end → end ≡ w ∷ after → w.kind ≡ BarBar → SpellsMerge text o ps after r
    → SpellsMerge text o (q ∷ ps) here r
merge_put found e h c = let first = before_parallel found.s found.o found.is found.stays e h in merge_more first.1 h c

merge_take : {text : List ℕ} {q : PlainProcess} {here end after r : List Token} {w : Token} {o : Bool} {ps : List PlainProcess} → OnlyLeft text q here end → end ≡ w ∷ after → w.kind ≡ BarBar → SpellsMerge text o ps here r
    → Follows r → Stays true o r → (qs : List PlainProcess) × (ps ≡ q ∷ qs) × SpellsMerge text o qs after r
merge_take {r = r} only e h (merge_last {s = s} {o = o} {p = p} a) f t = absurd (t.sum_ends refl (begins_here BarBar e h (only s o p r a f (stays_any t) (t.left_ends refl)).1))
merge_take only e h (merge_more {z = z} {p = p} {ps = ps} {b = b} {us = us} a k c) f t =
    let same = only false z p (b ∷ us) a (at_parallel b us k) (stays_parallel b us k) (not_left b us k) in
    (ps, ap (λ (x : PlainProcess). x ∷ ps) (sym same.0), merge_from (tails (sym e ∙ same.1)) c)

pub next_left : {text : List ℕ} {q : PlainProcess} {here end after : List Token} {w : Token} → FindsLeft text q here end → OnlyLeft text q here end → end ≡ w ∷ after → w.kind ≡ BarBar
    → NextPart (SpellsMerge text) EndsMerge here q after
next_left found only e h = record { put = λ m ps r c. merge_put found e h c; take = λ m ps r c t. merge_take only e h c t.0 t.1 }

last_left : {text : List ℕ} {q : PlainProcess} {here end r : List Token} {o : Bool} {ps : List PlainProcess} → OnlyLeft text q here end → (Begins BarBar end → ⊥) → SpellsMerge text o ps here r → Follows r → Stays true o r
    → (ps ≡ q ∷ []) × (end ≡ r)
last_left {r = r} only n (merge_last {s = s} {o = o} {p = p} a) f t = let same = only s o p r a f (stays_any t) (t.left_ends refl) in (ap (λ (x : PlainProcess). x ∷ []) (sym same.0), same.1)
last_left only n (merge_more {z = z} {p = p} {b = b} {us = us} a k c) f t = absurd (n (moved BarBar (sym (only false z p (b ∷ us) a (at_parallel b us k) (stays_parallel b us k) (not_left b us k)).1) k))

pub merge_err : (Q : Type 0) {text : List ℕ} {front ps : List PlainProcess} {o : Bool} {tokens here r : List Token} → MergeLeft text tokens front here
    → ((s o : Bool) (p : PlainProcess) (v : List Token) → SpellsLeft text s o p here v → Follows v → Stays s o v → (Begins LeftMerge v → ⊥) → Q) → SpellsMerge text o ps tokens r → Follows r → Stays true o r → Q
merge_err Q {text = text} {ps = ps} {o = o} {here = here} {r = r} left g a f t = first (left.only o ps r a (f, t)).2 t
  where
    first : {o : Bool} {ps : List PlainProcess} → SpellsMerge text o ps here r → Stays true o r → Q
    first (merge_last {s = s} {o = o} {p = p} a) t = g s o p r a f (stays_any t) (t.left_ends refl)
    first (merge_more {z = z} {p = p} {b = b} {us = us} a k c) t = g false z p (b ∷ us) a (at_parallel b us k) (stays_parallel b us k) (not_left b us k)

pub merge_found : {text : List ℕ} {front all : List PlainProcess} {q x : PlainProcess} {tokens here end : List Token} → MergeLeft text tokens front here → FindsLeft text q here end → (Begins BarBar end → ⊥)
    → all ≡ front ++ q ∷ [] → x ≡ merged all → FindsMerge text x tokens end
merge_found {text = text} {all = all} left found n e i = record {
  o = found.o;
  ps = all;
  tree = i;
  is = chain_ends (SpellsMerge text) EndsMerge found.o left (merge_last found.is) e;
  stays = record { sum_ends = λ s. n; left_ends = λ s. found.left; open_ends = found.stays.open_ends };
  dot = found.dot;
}

pub merge_only : {text : List ℕ} {front all ps : List PlainProcess} {q x : PlainProcess} {o : Bool} {tokens here end r : List Token} → MergeLeft text tokens front here → OnlyLeft text q here end → (Begins BarBar end → ⊥)
    → all ≡ front ++ q ∷ [] → x ≡ merged all → SpellsMerge text o ps tokens r → Follows r → Stays true o r → (x ≡ merged ps) × (end ≡ r)
merge_only {text = text} {o = o} left only n e i a f t =
    let same = chain_ends_only (SpellsMerge text) EndsMerge o left (λ m ps r b s. last_left only n b s.0 s.1) e a (f, t) in (i ∙ ap (λ (y : List PlainProcess). merged y) same.0, same.1)

-- The parts of a sequence: atoms with `|` between them, and at the end maybe a sum or a condition.
pub data SpellsParts (text : List ℕ) : Bool → Bool → List PlainProcess → List Token → List Token → Type 0 where
  parts_last : {s o : Bool} {p : PlainProcess} {ts r : List Token} → SpellsLast text s o p ts r → SpellsParts text s o (p ∷ []) ts r
  parts_multi : {s o : Bool} {as_ ps : List PlainProcess} {ts us r : List Token} → SpellsMulti text as_ ts us → SpellsDots text s o ps us r → SpellsParts text s o (together as_ ∷ ps) ts r

operand_of : {text : List ℕ} {s o : Bool} {ps : List PlainProcess} {ts r : List Token} → SpellsParts text s o ps ts r → SpellsOperand text s o (sequenced ps) ts r
operand_of (parts_last (last_sum a)) = operand_sum a
operand_of (parts_last (last_cond a)) = operand_cond a
operand_of (parts_multi a d) = operand_parts a d

parts_of : {text : List ℕ} {s o : Bool} {p : PlainProcess} {ts r : List Token} → SpellsOperand text s o p ts r → (ps : List PlainProcess) × (p ≡ sequenced ps) × SpellsParts text s o ps ts r
parts_of (operand_sum {p = p} a) = (p ∷ [], refl, parts_last (last_sum a))
parts_of (operand_cond {p = p} a) = (p ∷ [], refl, parts_last (last_cond a))
parts_of (operand_parts {as_ = as_} {ps = ps} a d) = (together as_ ∷ ps, refl, parts_multi a d)

dots_of : {text : List ℕ} {s o : Bool} {ps : List PlainProcess} {t : Token} {ts r : List Token} → t.kind ≡ Dot → SpellsParts text s o ps ts r → SpellsDots text s o ps (t ∷ ts) r
dots_of h (parts_last (last_sum a)) = dots_sum h a
dots_of h (parts_last (last_cond a)) = dots_cond h a
dots_of h (parts_multi a d) = dots_atom h a d

-- what stands behind a dot
behind_dot : {text : List ℕ} {s o : Bool} {ps : List PlainProcess} {t : Token} {ts r : List Token} → t.kind ≡ Dot → SpellsDots text s o ps (t ∷ ts) r → Follows r → SpellsParts text s o ps ts r
behind_dot h dots_end f = absurd (f.dot h)
behind_dot h (dots_atom k a d) f = parts_multi a d
behind_dot h (dots_sum k a) f = parts_last (last_sum a)
behind_dot h (dots_cond k a) f = parts_last (last_cond a)

no_dots : {text : List ℕ} {s o : Bool} {ps : List PlainProcess} {ts r : List Token} → (Begins Dot ts → ⊥) → SpellsDots text s o ps ts r → (ps ≡ []) × (ts ≡ r)
no_dots n dots_end = (refl, refl)
no_dots n (dots_atom h a d) = absurd (n h)
no_dots n (dots_sum h a) = absurd (n h)
no_dots n (dots_cond h a) = absurd (n h)

abbrev pub OnlyLast : List ℕ → PlainProcess → List Token → List Token → Type 0
OnlyLast text p ts us = (s o : Bool) (q : PlainProcess) (r : List Token) → SpellsLast text s o q ts r → Follows r → Stays s o r → (p ≡ q) × (us ≡ r)

abbrev pub OnlyMulti : List ℕ → PlainProcess → List Token → List Token → Type 0
OnlyMulti text p ts us = (qs : List PlainProcess) (r : List Token) → SpellsMulti text qs ts r → NoAction r → (Begins Arrow r → ⊥) → (p ≡ together qs) × (us ≡ r)

-- no action goes on in front of a dot, or where an operand ends
no_action : {text : List ℕ} {s o : Bool} {ps : List PlainProcess} {us r : List Token} → SpellsDots text s o ps us r → Follows r → NoAction us
no_action d f = let ends = alone d f in record { paren = ends.atomic.paren; bar = ends.bar }

abbrev pub IsParts : List ℕ → Bool × Bool → List PlainProcess → List Token → List Token → Type 0
IsParts text m = SpellsParts text m.0 m.1

abbrev pub EndsParts : Bool × Bool → List Token → Type 0
EndsParts m r = Follows r × Stays m.0 m.1 r

abbrev pub PartsLeft : List ℕ → List Token → List PlainProcess → List Token → Type 0
PartsLeft text = ChainLeft (IsParts text) EndsParts

-- a part that ends in front of a dot is atoms
parts_put : {text : List ℕ} {q : PlainProcess} {here end after r : List Token} {w : Token} {s o : Bool} {ps : List PlainProcess} → FindsPart text q here end → end ≡ w ∷ after → w.kind ≡ Dot → SpellsParts text s o ps after r
    → SpellsParts text s o (q ∷ ps) here r
parts_put (finds_last found) e h c = absurd (found.dot (subst (Begins Dot) (sym e) h))
parts_put (finds_multi a) e h c = rw a.tree (parts_multi a.is (dots_from e (dots_of h c)))

parts_take : {text : List ℕ} {q : PlainProcess} {here end after r : List Token} {w : Token} {s o : Bool} {ps : List PlainProcess} → OnlyLast text q here end → OnlyMulti text q here end → end ≡ w ∷ after → w.kind ≡ Dot
    → SpellsParts text s o ps here r → Follows r → Stays s o r → (qs : List PlainProcess) × (ps ≡ q ∷ qs) × SpellsParts text s o qs after r
parts_take {r = r} last multi e h (parts_last {s = s} {o = o} {p = p} a) f t = absurd (f.dot (begins_here Dot e h (last s o p r a f t).1))
parts_take last multi e h (parts_multi {as_ = as_} {ps = ps} {us = us} a d) f t =
    let same = multi as_ us a (no_action d f) (alone d f).atomic.arrow in
    (ps, ap (λ (x : PlainProcess). x ∷ ps) (sym same.0), behind_dot h (dots_from (sym e ∙ same.1) d) f)

pub next_part : {text : List ℕ} {q : PlainProcess} {here end after : List Token} {w : Token} → FindsPart text q here end → OnlyLast text q here end → OnlyMulti text q here end → end ≡ w ∷ after → w.kind ≡ Dot
    → NextPart (IsParts text) EndsParts here q after
next_part found last multi e h = record { put = λ m ps r c. parts_put found e h c; take = λ m ps r c t. parts_take last multi e h c t.0 t.1 }

last_part : {text : List ℕ} {q : PlainProcess} {here end r : List Token} {s o : Bool} {ps : List PlainProcess} → OnlyLast text q here end → OnlyMulti text q here end → (Begins Dot end → ⊥) → SpellsParts text s o ps here r
    → Follows r → Stays s o r → (ps ≡ q ∷ []) × (end ≡ r)
last_part {r = r} last multi n (parts_last {s = s} {o = o} {p = p} a) f t = let same = last s o p r a f t in (ap (λ (x : PlainProcess). x ∷ []) (sym same.0), same.1)
last_part {q = q} last multi n (parts_multi {as_ = as_} {us = us} a d) f t =
    let same = multi as_ us a (no_action d f) (alone d f).atomic.arrow in
    let none = no_dots (λ b. n (moved Dot (sym same.1) b)) d in
    (ap (λ (x : List PlainProcess). together as_ ∷ x) none.0 ∙ ap (λ (x : PlainProcess). x ∷ []) (sym same.0), same.1 ∙ none.1)

pub parts_err : (Q : Type 0) {text : List ℕ} {front : List PlainProcess} {p : PlainProcess} {s o : Bool} {tokens here r : List Token} → PartsLeft text tokens front here
    → ((s o : Bool) (q : PlainProcess) (v : List Token) → SpellsLast text s o q here v → Follows v → Stays s o v → Q)
    → ((qs : List PlainProcess) (v : List Token) → SpellsMulti text qs here v → NoAction v → (Begins Arrow v → ⊥) → Q) → SpellsOperand text s o p tokens r → Follows r → Stays s o r → Q
parts_err Q {text = text} {s = s} {o = o} {here = here} {r = r} left last multi a f t = let parts = parts_of a in first (left.only (s, o) parts.0 r parts.2 (f, t)).2 t
  where
    first : {s o : Bool} {ps : List PlainProcess} → SpellsParts text s o ps here r → Stays s o r → Q
    first (parts_last {s = s} {o = o} {p = p} a) t = last s o p r a f t
    first (parts_multi {as_ = as_} {us = us} a d) t = multi as_ us a (no_action d f) (alone d f).atomic.arrow

pub parts_found : {text : List ℕ} {front all : List PlainProcess} {q x : PlainProcess} {tokens here end : List Token} → PartsLeft text tokens front here → FindsPart text q here end → (Begins Dot end → ⊥)
    → all ≡ front ++ q ∷ [] → x ≡ sequenced all → FindsOperand text x tokens end
parts_found {text = text} left (finds_last found) n e i = rw i (record {
  s = found.s;
  o = found.o;
  is = operand_of (chain_ends (IsParts text) EndsParts (found.s, found.o) left (parts_last found.is) e);
  stays = found.stays;
  dot = n;
})
parts_found {text = text} {q = q} {here = here} {end = end} left (finds_multi a) n e i =
    let one : SpellsParts text false false (q ∷ []) here end = rw a.tree (parts_multi a.is dots_end) in
    rw i (record {
      s = false;
      o = false;
      is = operand_of (chain_ends (IsParts text) EndsParts (false, false) left one e);
      stays = record { sum_ends = λ f. absurd cc; left_ends = λ f. absurd cc; open_ends = λ f. absurd cc };
      dot = n;
    })

pub parts_only : {text : List ℕ} {front all : List PlainProcess} {p q x : PlainProcess} {s o : Bool} {tokens here end r : List Token} → PartsLeft text tokens front here → OnlyLast text q here end → OnlyMulti text q here end
    → (Begins Dot end → ⊥) → all ≡ front ++ q ∷ [] → x ≡ sequenced all → SpellsOperand text s o p tokens r → Follows r → Stays s o r → (x ≡ p) × (end ≡ r)
parts_only {text = text} {s = s} {o = o} left last multi n e i a f t =
    let parts = parts_of a in
    let same = chain_ends_only (IsParts text) EndsParts (s, o) left (λ m ps r b k. last_part last multi n b k.0 k.1) e parts.2 (f, t) in
    (i ∙ ap (λ (y : List PlainProcess). sequenced y) same.0 ∙ sym parts.1, same.1)
