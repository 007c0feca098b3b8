-- What a verdict on a text is.
use Rattle.std.specs.Prelude.{◌≡◌, ℕ, false, List, [], ◌∷◌}
use Rattle.std.specs.List.{AllByRecursion, AllZip}
use Rattle.data_theory.specs.IdData.{data_meant}
use Rattle.data_theory.specs.IdTrees.{Tree}
use Rattle.data_theory.specs.Signature.{Sig}
use Rattle.lps_core.specs.PlainLinears.{PlainLinear}
use Rattle.trace_replay.specs.declared.replaying.Verdict.{Verdict}
use Rattle.trace_replay.specs.Pairings.{IsClosedLabel}
use Rattle.trace_replay.specs.ReadTraces.{PlainLine}
use Rattle.trace_replay.specs.ReplayLaws.{meant, start}
use Rattle.trace_replay.specs.Replays.{Entry, Replays}
use Rattle.trace_replay.specs.Settings.{Setting, data_in}
use Rattle.trace_replay.specs.Traces.{IsTrace}
use Rattle.trace_replay.specs.Ways.{LabelIs}

-- The text is a trace of closed labels, and from its start the linear process has this verdict on them.
pub record IsVerdictOn (s : Setting) (ts : List Tree) (l : PlainLinear) (text : List ℕ) (v : Verdict) : Type 0 where
  pub entries : List Entry
  pub is_trace : IsTrace s.signature text entries
  pub closed : AllByRecursion (λ (e : Entry). IsClosedLabel (data_in s) e.label) entries
  pub replays : Replays s (meant s ts l) (start s ts l ∷ []) false entries v

-- ---- in code
-- the line has the number and the label of the entry, whose label is closed
pub record LineIs (g : Sig) (ts : List Tree) (x : PlainLine) (e : Entry) : Type 0 where
  pub number : x.number ≡ e.number
  pub label : LabelIs g ts x.label e.label
  pub closed : IsClosedLabel (data_meant g) e.label

abbrev pub LinesAre : Sig → List Tree → List PlainLine → List Entry → Type 0
LinesAre g ts xs es = AllZip (LineIs g ts) xs es
