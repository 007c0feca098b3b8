-- Traces: which labels the lines of a text are.
use Rattle.std.specs.Prelude.{◌≡◌, ◌⊎◌, ℕ, suc, List, [], ◌∷◌}
use Rattle.data_theory.specs.Signature.{Sig}
use Rattle.mcrl2_syntax.specs.ProcessParts.{PlainLabel}
use Rattle.mcrl2_parser.specs.LabelLines.{IsLabelLine}
use Rattle.process_terms.specs.Labels.{Label}
use Rattle.sort_checker.specs.TypedLabels.{IsTypedLabel}
use Rattle.trace_replay.specs.BlankLines.{IsBlank}
use Rattle.trace_replay.specs.Lines.{lines_of}
use Rattle.trace_replay.specs.Replays.{Entry}

-- the line spells a tree, which is this closed, typed label
pub record SpellsLabel (g : Sig) (line : List ℕ) (m : Label) : Type 0 where
  pub tree : PlainLabel
  pub spelled : IsLabelLine line tree
  pub typed : IsTypedLabel g tree m

-- the line is blank, or spells a closed, typed label
abbrev pub IsGoodLine : Sig → List ℕ → Type 0
IsGoodLine g line = IsBlank line ⊎ ((m : Label) × SpellsLabel g line m)

-- Lines with the labels that they spell, counted from a number on. A blank line is counted and has none.
pub data HaveLabels (g : Sig) : ℕ → List (List ℕ) → List Entry → Type 0 where
  no_more_lines : {k : ℕ} → HaveLabels g k [] []
  blank_line : {k : ℕ} {line : List ℕ} {lines : List (List ℕ)} {es : List Entry} → IsBlank line → HaveLabels g (suc k) lines es → HaveLabels g k (line ∷ lines) es
  label_line : {k : ℕ} {line : List ℕ} {lines : List (List ℕ)} {m : Label} {es : List Entry} → SpellsLabel g line m → HaveLabels g (suc k) lines es
      → HaveLabels g k (line ∷ lines) (record { number = k; label = m } ∷ es)

-- the number of the first line that isn't good
pub data IsFirstBad (g : Sig) : ℕ → List (List ℕ) → ℕ → Type 0 where
  this_line : {k : ℕ} {line : List ℕ} {lines : List (List ℕ)} → ¬ (IsGoodLine g line) → IsFirstBad g k (line ∷ lines) k
  later_line : {k n : ℕ} {line : List ℕ} {lines : List (List ℕ)} → IsGoodLine g line → IsFirstBad g (suc k) lines n → IsFirstBad g k (line ∷ lines) n

-- the text is a trace of these labels
abbrev pub IsTrace : Sig → List ℕ → List Entry → Type 0
IsTrace g text es = HaveLabels g 1 (lines_of text) es

abbrev pub IsBadTrace : Sig → List ℕ → ℕ → Type 0
IsBadTrace g text k = IsFirstBad g 1 (lines_of text) k

-- ---- laws
abbrev pub TracesHaveOneListOfLabels : Type 0
TracesHaveOneListOfLabels = (g : Sig) (text : List ℕ) (one other : List Entry) → IsTrace g text one → IsTrace g text other → one ≡ other

abbrev pub BadTracesHaveNoLabels : Type 0
BadTracesHaveNoLabels = (g : Sig) (text : List ℕ) (k : ℕ) (es : List Entry) → IsBadTrace g text k → IsTrace g text es → ⊥

abbrev pub BadTracesHaveOneFirstBadLine : Type 0
BadTracesHaveOneFirstBadLine = (g : Sig) (text : List ℕ) (k n : ℕ) → IsBadTrace g text k → IsBadTrace g text n → k ≡ n
