-- Which tokens spell which process term.
use Rattle.std.specs.Prelude.{◌≡◌, ℕ, Bool, true, false, List, [], ◌∷◌, option_map, Option, Some, None}
use Rattle.mcrl2_lexer.specs.declared.kind.Kind.TheVariants.{Delta, LeftParen, RightParen, Plus, BarBar, LeftMerge, Bar, Sum, Dot, Arrow, Else}
use Rattle.mcrl2_lexer.specs.declared.token.Token.{Token}
use Rattle.mcrl2_syntax.specs.Words.{span_of, joined, spanned}
use Rattle.mcrl2_syntax.specs.DataTrees.{PlainData, data_span}
use Rattle.mcrl2_syntax.specs.ProcessParts.{PlainAction, PlainVarGroup, action_span}
use Rattle.mcrl2_syntax.specs.ProcessTrees.{PlainProcess, delta, acts, multi, sync, within, sequence, sum, when, either, left_merge, parallel, choice, processes_of, process_span}
use Rattle.mcrl2_syntax.specs.SpelledData.{SpellsUnit}
use Rattle.mcrl2_syntax.specs.SpelledLabels.{SpellsAction, SpellsCall, SpellsVars, Operation, operated, SpellsOperation}

-- one part is itself, more are a chain
abbrev pub sequenced : List PlainProcess → PlainProcess
sequenced [] = sequence (spanned process_span []) (processes_of [])
sequenced (p ∷ []) = p
sequenced (p ∷ q ∷ ps) = sequence (spanned process_span (p ∷ q ∷ ps)) (processes_of (p ∷ q ∷ ps))

abbrev pub merged : List PlainProcess → PlainProcess
merged [] = parallel (spanned process_span []) (processes_of [])
merged (p ∷ []) = p
merged (p ∷ q ∷ ps) = parallel (spanned process_span (p ∷ q ∷ ps)) (processes_of (p ∷ q ∷ ps))

abbrev pub chosen : List PlainProcess → PlainProcess
chosen [] = choice (spanned process_span []) (processes_of [])
chosen (p ∷ []) = p
chosen (p ∷ q ∷ ps) = choice (spanned process_span (p ∷ q ∷ ps)) (processes_of (p ∷ q ∷ ps))

-- the operands of a `|` where all are actions
abbrev pub all_acts : List PlainProcess → Option (List PlainAction)
all_acts [] = Some []
all_acts (acts a ∷ ps) = option_map (λ as_. a ∷ as_) (all_acts ps)
all_acts (p ∷ ps) = None

-- one operand is itself; more of them are actions at once where all are actions, and else processes at once
abbrev pub at_once : List PlainProcess → Option (List PlainAction) → PlainProcess
at_once ps (Some as_) = multi (spanned action_span as_) as_
at_once ps None = sync (spanned process_span ps) (processes_of ps)

abbrev pub together : List PlainProcess → PlainProcess
together [] = sync (spanned process_span []) (processes_of [])
together (p ∷ []) = p
together (p ∷ q ∷ ps) = at_once (p ∷ q ∷ ps) (all_acts (p ∷ q ∷ ps))

-- Two marks tell how a term ends outside brackets: the first in a sum, the second in a condition without an else part.
mutual
  -- a term without `+`, `||`, `||_`, `|`, `.`, `sum` and `->` outside brackets
  pub data SpellsAtom (text : List ℕ) : PlainProcess → List Token → List Token → Type 0 where
    atom_delta : {t : Token} {r : List Token} → t.kind ≡ Delta → SpellsAtom text (delta (span_of t t)) (t ∷ r) r
    atom_action : {a : PlainAction} {ts r : List Token} → SpellsAction text a ts r → SpellsAtom text (acts a) ts r
    atom_call : {p : PlainProcess} {ts r : List Token} → SpellsCall text p ts r → SpellsAtom text p ts r
    atom_brackets : {t v : Token} {ps : List PlainProcess} {ts r : List Token} → t.kind ≡ LeftParen → SpellsChoices text ps ts (v ∷ r) → v.kind ≡ RightParen
        → SpellsAtom text (within (span_of t v) (chosen ps)) (t ∷ ts) r
    atom_operator : {o : Operation} {t v : Token} {ps : List PlainProcess} {ts us r : List Token} → SpellsOperation text o (t ∷ ts) us → SpellsChoices text ps us (v ∷ r) → v.kind ≡ RightParen
        → SpellsAtom text (operated (span_of t v) o (chosen ps)) (t ∷ ts) r

  -- atoms with `|` between them
  pub data SpellsMulti (text : List ℕ) : List PlainProcess → List Token → List Token → Type 0 where
    multi_last : {p : PlainProcess} {ts r : List Token} → SpellsAtom text p ts r → SpellsMulti text (p ∷ []) ts r
    multi_more : {p : PlainProcess} {ps : List PlainProcess} {b : Token} {ts us r : List Token} → SpellsAtom text p ts (b ∷ us) → b.kind ≡ Bar → SpellsMulti text ps us r
        → SpellsMulti text (p ∷ ps) ts r

  -- an operand of `||` or `||_`
  pub data SpellsOperand (text : List ℕ) : Bool → Bool → PlainProcess → List Token → List Token → Type 0 where
    operand_sum : {o : Bool} {p : PlainProcess} {ts r : List Token} → SpellsSum text o p ts r → SpellsOperand text true o p ts r
    operand_cond : {s o : Bool} {p : PlainProcess} {ts r : List Token} → SpellsCond text s o p ts r → SpellsOperand text s o p ts r
    operand_parts : {s o : Bool} {as_ ps : List PlainProcess} {ts us r : List Token} → SpellsMulti text as_ ts us → SpellsDots text s o ps us r
        → SpellsOperand text s o (sequenced (together as_ ∷ ps)) ts r

  -- the further parts of a sequence, each behind a dot; a sum or a condition is the last one
  pub data SpellsDots (text : List ℕ) : Bool → Bool → List PlainProcess → List Token → List Token → Type 0 where
    dots_end : {r : List Token} → SpellsDots text false false [] r r
    dots_atom : {s o : Bool} {as_ ps : List PlainProcess} {t : Token} {ts us r : List Token} → t.kind ≡ Dot → SpellsMulti text as_ ts us → SpellsDots text s o ps us r
        → SpellsDots text s o (together as_ ∷ ps) (t ∷ ts) r
    dots_sum : {o : Bool} {p : PlainProcess} {t : Token} {ts r : List Token} → t.kind ≡ Dot → SpellsSum text o p ts r → SpellsDots text true o (p ∷ []) (t ∷ ts) r
    dots_cond : {s o : Bool} {p : PlainProcess} {t : Token} {ts r : List Token} → t.kind ≡ Dot → SpellsCond text s o p ts r → SpellsDots text s o (p ∷ []) (t ∷ ts) r

  -- `sum x: S . p || q`
  pub data SpellsSum (text : List ℕ) : Bool → PlainProcess → List Token → List Token → Type 0 where
    sum_over : {o : Bool} {t y : Token} {xs : List PlainVarGroup} {ps : List PlainProcess} {ts us r : List Token} → t.kind ≡ Sum → SpellsVars text xs ts (y ∷ us) → y.kind ≡ Dot
        → SpellsMerge text o ps us r → SpellsSum text o (sum (joined (span_of t t) (process_span (merged ps))) xs (merged ps)) (t ∷ ts) r

  -- `c -> p` and `c -> p <> q`
  pub data SpellsCond (text : List ℕ) : Bool → Bool → PlainProcess → List Token → List Token → Type 0 where
    cond_then : {s o : Bool} {c : PlainData} {p : PlainProcess} {a : Token} {ts us r : List Token} → SpellsUnit text c ts (a ∷ us) → a.kind ≡ Arrow → SpellsOperand text s o p us r
        → SpellsCond text s true (when (joined (data_span c) (process_span p)) c p) ts r
    -- the part before `<>` doesn't end in a condition without it
    cond_else : {s o z : Bool} {c : PlainData} {p q : PlainProcess} {a e : Token} {ts us vs r : List Token} → SpellsUnit text c ts (a ∷ us) → a.kind ≡ Arrow
        → SpellsOperand text z false p us (e ∷ vs) → e.kind ≡ Else → SpellsOperand text s o q vs r
        → SpellsCond text s o (either (joined (data_span c) (process_span q)) c p q) ts r

  -- operands with `||_` between them, the first one outside
  pub data SpellsLeft (text : List ℕ) : Bool → Bool → PlainProcess → List Token → List Token → Type 0 where
    left_last : {s o : Bool} {p : PlainProcess} {ts r : List Token} → SpellsOperand text s o p ts r → SpellsLeft text s o p ts r
    -- an operand that isn't the last one doesn't end in a sum
    left_more : {s o z : Bool} {p q : PlainProcess} {b : Token} {ts us r : List Token} → SpellsOperand text false z p ts (b ∷ us) → b.kind ≡ LeftMerge → SpellsLeft text s o q us r
        → SpellsLeft text s o (left_merge (joined (process_span p) (process_span q)) p q) ts r

  -- these with `||` between them
  pub data SpellsMerge (text : List ℕ) : Bool → List PlainProcess → List Token → List Token → Type 0 where
    merge_last : {s o : Bool} {p : PlainProcess} {ts r : List Token} → SpellsLeft text s o p ts r → SpellsMerge text o (p ∷ []) ts r
    -- an operand that isn't the last one doesn't end in a sum
    merge_more : {o z : Bool} {p : PlainProcess} {ps : List PlainProcess} {b : Token} {ts us r : List Token} → SpellsLeft text false z p ts (b ∷ us) → b.kind ≡ BarBar
        → SpellsMerge text o ps us r → SpellsMerge text o (p ∷ ps) ts r

  -- operands with `+` between them
  pub data SpellsChoices (text : List ℕ) : List PlainProcess → List Token → List Token → Type 0 where
    choices_last : {o : Bool} {ps : List PlainProcess} {ts r : List Token} → SpellsMerge text o ps ts r → SpellsChoices text (merged ps ∷ []) ts r
    choices_more : {o : Bool} {ps qs : List PlainProcess} {b : Token} {ts us r : List Token} → SpellsMerge text o ps ts (b ∷ us) → b.kind ≡ Plus → SpellsChoices text qs us r
        → SpellsChoices text (merged ps ∷ qs) ts r

-- a process term
pub data SpellsProcess (text : List ℕ) : PlainProcess → List Token → List Token → Type 0 where
  spells_process : {ps : List PlainProcess} {ts r : List Token} → SpellsChoices text ps ts r → SpellsProcess text (chosen ps) ts r

-- the tokens spell no two process terms
abbrev pub ProcessesAreSingle : Type 0
ProcessesAreSingle = (text : List ℕ) (one other : PlainProcess) (tokens : List Token) → SpellsProcess text one tokens [] → SpellsProcess text other tokens [] → one ≡ other
