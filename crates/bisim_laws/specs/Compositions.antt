-- Steps of compositions, piece by piece.
use Rattle.std.specs.Prelude.{List, []}
use Rattle.process_terms.specs.Theories.{Theory}
use Rattle.process_terms.specs.Labels.{Label, AgreeInOrder}
use Rattle.process_terms.specs.Processes.{Process}
use Rattle.process_terms.specs.Steps.{Outcome, ended, goes_on, Step}
use Rattle.bisim_laws.specs.Sameness.{Alike}
use Rattle.bisim_laws.specs.BaseStates.{Chain}

-- what is left after a step is the same as a composition of pieces, or nothing is left
pub data LeftOver {A : Type 0} (th : Theory) (P : Process → A → Type 0) : Outcome → List A → Type 0 where
  nothing_left_over : LeftOver th P ended []
  pieces_left_over : {p q : Process} {xs : List A} → Alike th p q → Chain P q xs → LeftOver th P (goes_on p) xs

-- q answers the step of one piece, and what is left over on both sides goes along one list
pub record PieceAnswer {A : Type 0} (th : Theory) (P Q : Process → A → Type 0) (q : Process) (m : Label) (r : Outcome) : Type 0 where
  pub label : Label
  pub outcome : Outcome
  pub left : List A
  pub step : Step th q label outcome
  pub agree : AgreeInOrder th m label
  pub here : LeftOver th P r left
  pub there : LeftOver th Q outcome left

abbrev pub PiecesAnswer : {A : Type 0} → Theory → (Process → A → Type 0) → (Process → A → Type 0) → Type 0
PiecesAnswer {A} th P Q = (a : A) (p q : Process) (m : Label) (r : Outcome) → P p a → Q q a → Step th p m r → PieceAnswer th P Q q m r
