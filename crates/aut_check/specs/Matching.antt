-- When moves of a linear process and edges of a file match.
use Rattle.std.specs.Prelude.{◌⊎◌, List, [], ◌++◌, Option, Some, None}
use Rattle.data_theory.specs.Terms.{Sort, Term}
use Rattle.process_terms.specs.Communication.{equalities}
use Rattle.process_terms.specs.Labels.{Label}
use Rattle.lps_simulator.specs.Options.{TermMove}
use Rattle.trace_replay.specs.Decidings.{Answer, hold, fail, stay_open, ComeOut}
use Rattle.trace_replay.specs.Pairings.{Pairing, label_equalities}
use Rattle.trace_replay.specs.Settings.{Setting}
use Rattle.aut_check.specs.Systems.{FileState}

-- both have ended, or neither has
pub data EndAlike : Option (List Term) → FileState → Type 0 where
  both_ended : EndAlike None None
  neither_ended : {ts us : List Term} → EndAlike (Some ts) (Some us)

-- the equalities between next terms and the terms of a state, the linear process's on the left
abbrev pub state_equalities : List Sort → Option (List Term) → FileState → List Term
state_equalities ss None o = []
state_equalities ss (Some ts) None = []
state_equalities ss (Some ts) (Some us) = equalities ss ts us

-- what is compared where the actions are paired so
abbrev pub comparisons : List Sort → TermMove → Label → FileState → List Term
comparisons ss m paired o = label_equalities m.label paired ++ state_equalities ss m.next o

-- a move and an edge with this label to this state: for some pairing of their actions the comparisons come out so
pub record Compare (s : Setting) (ss : List Sort) (m : TermMove) (n : Label) (o : FileState) (a : Answer) : Type 0 where
  pub pairing : Pairing m.label n
  pub ends : EndAlike m.next o
  pub comes : ComeOut s (comparisons ss m pairing.paired o) a

abbrev pub Match : Setting → List Sort → TermMove → Label → FileState → Type 0
Match s ss m n o = Compare s ss m n o hold

abbrev pub CouldStillMatch : Setting → List Sort → TermMove → Label → FileState → Type 0
CouldStillMatch s ss m n o = Compare s ss m n o stay_open

-- for no pairing they match
abbrev pub DoNotMatch : Setting → List Sort → TermMove → Label → FileState → Type 0
DoNotMatch s ss m n o = (p : Pairing m.label n) → EndAlike m.next o → ComeOut s (comparisons ss m p.paired o) fail ⊎ ComeOut s (comparisons ss m p.paired o) stay_open

-- for each pairing some comparison is decided No
abbrev pub Differ : Setting → List Sort → TermMove → Label → FileState → Type 0
Differ s ss m n o = (p : Pairing m.label n) → EndAlike m.next o → ComeOut s (comparisons ss m p.paired o) fail

-- ---- the start
-- how the initial terms, on the left, compare with the first state
pub data StartComes (s : Setting) (ss : List Sort) (initial : List Term) : FileState → Answer → Type 0 where
  has_ended : StartComes s ss initial None fail
  compared : {us : List Term} {a : Answer} → ComeOut s (equalities ss initial us) a → StartComes s ss initial (Some us) a
