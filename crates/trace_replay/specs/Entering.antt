-- Terms of one pool, entered into another.
use Rattle.std.specs.Prelude.{◌≡◌, ◌<◌, ℕ, List, get_or, length, map}
use Rattle.std.specs.List.{All, AllByRecursion}
use Rattle.data_theory.specs.declared.ids.TermId.{TermId}
use Rattle.data_theory.specs.IdData.{data_meant}
use Rattle.data_theory.specs.IdTrees.{Tree}
use Rattle.data_theory.specs.Signature.{Sig}
use Rattle.process_terms.specs.PlainProcesses.{PlainAction}
use Rattle.term_pool.specs.HeadTrees.{trees_at, AreIn}
use Rattle.trace_replay.specs.Pairings.{IsClosedLabel}
use Rattle.trace_replay.specs.ReadTraces.{PlainLine}
use Rattle.trace_replay.specs.Replays.{Entry}
use Rattle.trace_replay.specs.Traces.{IsTrace}
use Rattle.trace_replay.specs.Verdicts.{LinesAre}

-- The numbers stand in the second pool for the trees of the first one, place by place.
pub record AreEntered (ts us : List Tree) (ids : List TermId) : Type 0 where
  pub within : AreIn us ids
  pub trees : trees_at us ids ≡ ts

-- the number at the place of a term
abbrev pub number_in : List TermId → TermId → TermId
number_in ids term = get_or ids term.0 (record { 0 = 0 })

-- each of the terms has a number
abbrev pub HavePlaces : List TermId → List TermId → Type 0
HavePlaces ids terms = All (λ (term : TermId). term.0 < length ids) terms

abbrev pub ActionHasPlaces : List TermId → PlainAction → Type 0
ActionHasPlaces ids x = HavePlaces ids x.args

abbrev pub LineHasPlaces : List TermId → PlainLine → Type 0
LineHasPlaces ids x = All (ActionHasPlaces ids) x.label

-- an action and a line over these numbers
abbrev pub entered_action : List TermId → PlainAction → PlainAction
entered_action ids x = record { act = x.act; args = map (number_in ids) x.args }

abbrev pub entered_line : List TermId → PlainLine → PlainLine
entered_line ids x = record { number = x.number; label = map (entered_action ids) x.label }

-- the lines in code are the entries of the trace, whose labels are closed
pub record IsTraceOver (g : Sig) (ts : List Tree) (text : List ℕ) (xs : List PlainLine) : Type 0 where
  pub entries : List Entry
  pub is_trace : IsTrace g text entries
  pub closed : AllByRecursion (λ (e : Entry). IsClosedLabel (data_meant g) e.label) entries
  pub lines : LinesAre g ts xs entries
