-- What is read of a trace, in code.
use Rattle.std.specs.Prelude.{◌≡◌, ℕ, List, [], ◌∷◌, Option, Some, None}
use Rattle.std.specs.List.{AllByRecursion}
use Rattle.data_theory.specs.Signature.{Sig}
use Rattle.data_theory.specs.IdTrees.{Tree}
use Rattle.process_terms.specs.Labels as labels
use Rattle.process_terms.specs.Meanings.{HasLabel, label_of}
use Rattle.process_terms.specs.PlainProcesses.{PlainAction, plain_label}
use Rattle.process_terms.specs.SignatureEntries.{entries_of}
use Rattle.sort_checker.specs.TypedLabels.{FitsItsSorts}
use Rattle.trace_replay.specs.declared.reading.Line.{Line}
use Rattle.trace_replay.specs.BlankLines.{IsBlank}
use Rattle.trace_replay.specs.Replays.{Entry}
use Rattle.trace_replay.specs.Traces.{SpellsLabel, IsTrace}

pub record PlainLine : Type 0 where
  pub number : ℕ
  pub label : List PlainAction

abbrev pub plain_line : Line → PlainLine
plain_line x = record { number = x.number; label = plain_label x.label }

-- The actions in code are the label that the line spells. Their numbers are those of the signature and of the trees, and their arguments are
-- closed terms of their sorts.
pub record IsReadLabel (g : Sig) (ts : List Tree) (line : List ℕ) (xs : List PlainAction) : Type 0 where
  pub label : labels.Label
  pub spells : SpellsLabel g line label
  pub closed : AllByRecursion (FitsItsSorts g []) label
  pub there : HasLabel (entries_of g ts) xs
  pub means : label_of (entries_of g ts) xs ≡ label

-- a blank line, or one that spells a label
abbrev pub IsReadLine : Sig → List Tree → ℕ → List ℕ → Option PlainLine → Type 0
IsReadLine g ts k line None = IsBlank line
IsReadLine g ts k line (Some x) = (x.number ≡ k) × IsReadLabel g ts line x.label

-- a line in code with the entry that it is
pub record IsEntry (g : Sig) (ts : List Tree) (x : PlainLine) (e : Entry) : Type 0 where
  pub number : x.number ≡ e.number
  pub closed : AllByRecursion (FitsItsSorts g []) e.label
  pub there : HasLabel (entries_of g ts) x.label
  pub means : label_of (entries_of g ts) x.label ≡ e.label

pub data AreEntries (g : Sig) (ts : List Tree) : List PlainLine → List Entry → Type 0 where
  no_entries : AreEntries g ts [] []
  entry_then : {x : PlainLine} {e : Entry} {xs : List PlainLine} {es : List Entry} → IsEntry g ts x e → AreEntries g ts xs es → AreEntries g ts (x ∷ xs) (e ∷ es)

-- the lines in code are the entries of the trace
pub record IsReadTrace (g : Sig) (ts : List Tree) (text : List ℕ) (xs : List PlainLine) : Type 0 where
  pub entries : List Entry
  pub is_trace : IsTrace g text entries
  pub are : AreEntries g ts xs entries
