-- What the loop over `|` stands on.
use Rattle.std.proofs.Common.{◌≡◌, ℕ, List, [], ◌∷◌, ◌++◌, ap, sym, ◌∙◌, subst}
use Rattle.mcrl2_lexer.specs.declared.kind.Kind.TheVariants.{Bar}
use Rattle.mcrl2_lexer.specs.declared.token.Token.{Token}
use Rattle.mcrl2_syntax.specs.Words.{Begins}
use Rattle.mcrl2_syntax.specs.ProcessTrees.{PlainProcess}
use Rattle.mcrl2_syntax.specs.SpelledProcesses.{together, SpellsAtom, SpellsMulti, multi_last, multi_more}
use Rattle.mcrl2_syntax.specs.Follow.{NoAction}
use Rattle.mcrl2_syntax.proofs.Lists.{tails, moved}
use Rattle.mcrl2_syntax.proofs.LabelsOnce.{NoParen, bar_paren}
use Rattle.mcrl2_parser.specs.ProcessReading.{FindsMulti}
use Rattle.mcrl2_parser.proofs.ChainLeft.{ChainLeft, NextPart, chain_ends, chain_ends_only}
use Rattle.mcrl2_parser.proofs.ProcessChains.{begins_here}

abbrev pub OnlyAtom : List ℕ → PlainProcess → List Token → List Token → Type 0
OnlyAtom text p ts us = (q : PlainProcess) (r : List Token) → SpellsAtom text q ts r → NoParen r → (p ≡ q) × (us ≡ r)

abbrev pub IsMulti : List ℕ → Unit {0} → List PlainProcess → List Token → List Token → Type 0
IsMulti text m = SpellsMulti text

abbrev pub EndsMulti : Unit {0} → List Token → Type 0
EndsMulti m = NoAction

abbrev pub MultiLeft : List ℕ → List Token → List PlainProcess → List Token → Type 0
MultiLeft text = ChainLeft (IsMulti text) EndsMulti

multi_from : {text : List ℕ} {ps : List PlainProcess} {ts us r : List Token} → ts ≡ us → SpellsMulti text ps us r → SpellsMulti text ps ts r
multi_from {text = text} {ps = ps} {r = r} e d = subst (λ (x : List Token). SpellsMulti text ps x r) (sym e) d

multi_put : {text : List ℕ} {q : PlainProcess} {here end after r : List Token} {w : Token} {ps : List PlainProcess} → SpellsAtom text q here end → end ≡ w ∷ after → w.kind ≡ Bar → SpellsMulti text ps after r
    → SpellsMulti text (q ∷ ps) here r
multi_put {text = text} {q = q} {here = here} a e h c = multi_more (subst (λ (x : List Token). SpellsAtom text q here x) e a) h c

multi_take : {text : List ℕ} {q : PlainProcess} {here end after r : List Token} {w : Token} {ps : List PlainProcess} → OnlyAtom text q here end → end ≡ w ∷ after → w.kind ≡ Bar → SpellsMulti text ps here r → NoAction r
    → (qs : List PlainProcess) × (ps ≡ q ∷ qs) × SpellsMulti text qs after r
multi_take {r = r} only e h (multi_last {p = p} a) n = absurd (n.bar (begins_here Bar e h (only p r a n.paren).1))
multi_take only e h (multi_more {p = p} {ps = ps} {b = b} {us = us} a k c) n =
    let same = only p (b ∷ us) a (bar_paren b us k) in
    (ps, ap (λ (x : PlainProcess). x ∷ ps) (sym same.0), multi_from (tails (sym e ∙ same.1)) c)

pub next_atom : {text : List ℕ} {q : PlainProcess} {here end after : List Token} {w : Token} → SpellsAtom text q here end → OnlyAtom text q here end → end ≡ w ∷ after → w.kind ≡ Bar
    → NextPart (IsMulti text) EndsMulti here q after
next_atom found only e h = record { put = λ m ps r c. multi_put found e h c; take = λ m ps r c n. multi_take only e h c n }

last_atom : {text : List ℕ} {q : PlainProcess} {here end r : List Token} {ps : List PlainProcess} → OnlyAtom text q here end → (Begins Bar end → ⊥) → SpellsMulti text ps here r → NoAction r → (ps ≡ q ∷ []) × (end ≡ r)
last_atom {r = r} only none (multi_last {p = p} a) n = let same = only p r a n.paren in (ap (λ (x : PlainProcess). x ∷ []) (sym same.0), same.1)
last_atom only none (multi_more {p = p} {b = b} {us = us} a k c) n = absurd (none (moved Bar (sym (only p (b ∷ us) a (bar_paren b us k)).1) k))

pub multi_err : (Q : Type 0) {text : List ℕ} {front ps : List PlainProcess} {tokens here r : List Token} → MultiLeft text tokens front here
    → ((q : PlainProcess) (v : List Token) → SpellsAtom text q here v → NoParen v → Q) → SpellsMulti text ps tokens r → NoAction r → Q
multi_err Q {text = text} {ps = ps} {here = here} {r = r} left f a n = first (left.only tt ps r a n).2
  where
    first : {ps : List PlainProcess} → SpellsMulti text ps here r → Q
    first (multi_last {p = p} a) = f p r a n.paren
    first (multi_more {p = p} {b = b} {us = us} a k c) = f p (b ∷ us) a (bar_paren b us k)

pub multi_found : {text : List ℕ} {front all : List PlainProcess} {q x : PlainProcess} {tokens here end : List Token} → MultiLeft text tokens front here → SpellsAtom text q here end → all ≡ front ++ q ∷ [] → x ≡ together all
    → FindsMulti text x tokens end
multi_found {text = text} {all = all} left found e i = record { ps = all; tree = i; is = chain_ends (IsMulti text) EndsMulti tt left (multi_last found) e }

pub multi_only : {text : List ℕ} {front all ps : List PlainProcess} {q x : PlainProcess} {tokens here end r : List Token} → MultiLeft text tokens front here → OnlyAtom text q here end → (Begins Bar end → ⊥)
    → all ≡ front ++ q ∷ [] → x ≡ together all → SpellsMulti text ps tokens r → NoAction r → (x ≡ together ps) × (end ≡ r)
multi_only {text = text} left only none e i a n =
    let same = chain_ends_only (IsMulti text) EndsMulti tt left (λ m ps r b s. last_atom only none b s) e a n in (i ∙ ap (λ (y : List PlainProcess). together y) same.0, same.1)
