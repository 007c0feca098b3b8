-- Bisimulations that answer for some labels alone, told by the names of their actions.
use Rattle.std.specs.Prelude.{List, ◌++◌}
use Rattle.process_terms.specs.Names.{Name}
use Rattle.process_terms.specs.Theories.{Theory}
use Rattle.process_terms.specs.Labels.{Label, names}
use Rattle.process_terms.specs.Processes.{Around, Process}
use Rattle.process_terms.specs.Steps.{Outcome, Passes, Step}
use Rattle.bisim_laws.specs.Bisimulations.{Answer, Flipped, UpTo}
use Rattle.bisim_laws.specs.Links.{Link, Pairs}

-- what is said of the names of a label, each as often as it is there
abbrev pub OfNames : Type 1
OfNames = List Name → Type 0

-- of paired states each step of the first one whose names are such is answered by the second one, into states of S
abbrev pub AnswersWithin : Theory → OfNames → (Process → Process → Type 0) → (Process → Process → Type 0) → Type 0
AnswersWithin th Can R S = (p q : Process) (m : Label) (r : Outcome) → R p q → Can (names m) → Step th p m r → Answer th S q m r

pub record BisimulationWithin (th : Theory) (Can : List Name → Type 0) (R : Process → Process → Type 0) : Type 0 where
  pub forth : AnswersWithin th Can R R
  pub back : AnswersWithin th Can (Flipped R) (Flipped R)

-- the same up to what is the same
pub record ProgressWithin (th : Theory) (Can : List Name → Type 0) (R : Process → Process → Type 0) : Type 0 where
  pub forth : AnswersWithin th Can R (UpTo th R)
  pub back : AnswersWithin th Can (Flipped R) (Flipped (UpTo th R))

-- a link that pairs two processes, and whose relation answers for these labels
pub record IsGoodWithin (th : Theory) (Can : List Name → Type 0) (l : Link) (p q : Process) : Type 0 where
  pub starts : Pairs th l p q
  pub follows : BisimulationWithin th Can (Pairs th l)

-- ---- what is asked of the labels
-- what is said of the names of two labels together holds of each
pub record GoesToParts (Can : List Name → Type 0) : Type 0 where
  pub first : (ms ns : List Name) → Can (ms ++ ns) → Can ms
  pub second : (ms ns : List Name) → Can (ms ++ ns) → Can ns

-- a label that comes out of the operator with such names went in with such names
abbrev pub ComeFrom : Theory → Around → (Must Can : List Name → Type 0) → Type 0
ComeFrom th o Must Can = (m n : Label) → Passes th o m n → Must (names n) → Can (names m)
