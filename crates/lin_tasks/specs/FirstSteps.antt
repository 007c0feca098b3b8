-- What is shown of a linear process that stands for a text, as runs and steps of the text's process.
use Rattle.std.specs.Prelude.{◌≡◌, ◌⊎◌, ◌++◌, List, [], ◌∷◌}
use Rattle.std.specs.List.{All, Contains}
use Rattle.data_theory.specs.Provable.{Equation}
use Rattle.data_theory.specs.Signature.{Sig}
use Rattle.data_rewriter.specs.Simplifying.{AreLater}
use Rattle.process_terms.specs.Labels.{Label, AgreeInOrder}
use Rattle.process_terms.specs.Processes.{Process}
use Rattle.process_terms.specs.Steps.{Outcome, ended, goes_on, Step}
use Rattle.process_terms.specs.Theories.{Theory, IsConsistent}
use Rattle.bisim_laws.specs.Terminations.{terminate_label}
use Rattle.lps_core.specs.GoingOn.{GoesOn}
use Rattle.lps_core.specs.PlainLinears.{PlainSummand, PlainLinear}
use Rattle.lps_simulator.specs.Options.{TermMove}
use Rattle.lin_driver.specs.declared.ending.Ending.{Ending}
use Rattle.lin_driver.specs.declared.ending.Ending.TheVariants.{End, Terminate}

-- From p a run leads to r whose labels agree with these one by one, in order: the same names and sorts, and provably equal arguments.
pub data Performs (th : Theory) : Outcome → List Label → Outcome → Type 0 where
  nothing_done : {p : Outcome} → Performs th p [] p
  one_done : {p : Process} {q r : Outcome} {m n : Label} {ms : List Label} → AgreeInOrder th m n → Step th p n q → Performs th q ms r → Performs th (goes_on p) (m ∷ ms) r

-- some run from the process does so
abbrev pub CanPerform : Theory → Process → List Label → Type 0
CanPerform th p ms = (r : Outcome) × Performs th (goes_on p) ms r

-- some run from the process does so with all labels but the last one and ends, and the last one is `Terminate`
pub record PerformsAndTerminates (th : Theory) (p : Process) (ms : List Label) : Type 0 where
  pub front : List Label
  pub labels : ms ≡ front ++ terminate_label ∷ []
  pub run : Performs th (goes_on p) front ended

-- some run from the process has labels that agree with these; with `Terminate` this label may follow, where the run ends
abbrev pub CanPerformBy : Ending → Theory → Process → List Label → Type 0
CanPerformBy End th p ms = CanPerform th p ms
CanPerformBy Terminate th p ms = CanPerform th p ms ⊎ PerformsAndTerminates th p ms

-- The consistent theories of a text whose linear process has this signature: their data go on from those of the signature, and they have these
-- written equations.
pub record IsTheoryFor (g : Sig) (own : List Equation) (th : Theory) : Type 0 where
  pub goes_on : GoesOn g th
  pub later : AreLater g own th.declared th.equations
  pub consistent : IsConsistent th

-- a move with a label that agrees with this one
pub record IsListed (th : Theory) (moves : List TermMove) (label : Label) : Type 0 where
  pub move : TermMove
  pub among : Contains moves move
  pub agrees : AgreeInOrder th move.label label

-- no summand has a sum
abbrev pub HasNoSums : PlainLinear → Type 0
HasNoSums l = All (λ (s : PlainSummand). s.sums ≡ []) l.summands
