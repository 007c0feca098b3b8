-- A text has one theory and one process, but for the numbers of its sorts and functions and of bound variables.
use Rattle.std.specs.Prelude.{◌≡◌, ℕ, List}
use Rattle.process_terms.specs.Theories.{Theory}
use Rattle.process_terms.specs.Labels.{Label}
use Rattle.process_terms.specs.Processes.{Process}
use Rattle.process_terms.specs.Steps.{Outcome, Step}
use Rattle.bisim_laws.specs.Bisimulations.{Lands}
use Rattle.sort_table.specs.BareDeclarations.{Section, declarations_in}
use Rattle.sort_table.specs.Refusals.{IsSoundlyDeclared}
use Rattle.sort_checker.specs.FullVocabularies.{FullVocabulary, IsFullVocabularyOf}
use Rattle.sort_checker.specs.Systems.{IsSystem}
use Rattle.lin_driver.specs.Headline.{Specifies}
use Rattle.lin_driver.specs.Renumberings.{Renumbering, new_label, new_process, TakesFullVocabulary, TakesTheory}
use Rattle.lin_driver.specs.SameProcesses.{SameProcess}

-- under the new numbers the first process is the second one
abbrev pub AreSame : Renumbering → Process → Process → Type 0
AreSame r p q = SameProcess (new_process r p) q

-- Under the new numbers the vocabulary, the theory and the process of one reading are those of another one.
pub record TakesReading (r : Renumbering) (v w : FullVocabulary) (th ti : Theory) (p q : Process) : Type 0 where
  pub vocabulary : TakesFullVocabulary r v w
  pub theory : TakesTheory r th ti
  pub process : AreSame r p q

-- Each step of either process is one of the other, with the same label under the new numbers; and both end, or come to the same process.
pub record HaveSameSteps (r : Renumbering) (th ti : Theory) (p q : Process) : Type 0 where
  pub forth : (m : Label) (o : Outcome) → Step th p m o → (u : Outcome) × Step ti q (new_label r m) u × Lands (AreSame r) o u
  pub back : (n : Label) (u : Outcome) → Step ti q n u → (m : Label) × (o : Outcome) × Step th p m o × (new_label r m ≡ n) × Lands (AreSame r) o u

-- ---- laws
-- sound declarations have one vocabulary
abbrev pub VocabulariesAreOne : Type 0
VocabulariesAreOne = (ss : List Section) (v w : FullVocabulary) → IsSoundlyDeclared ss → IsFullVocabularyOf (declarations_in ss) v → IsFullVocabularyOf (declarations_in ss) w → (r : Renumbering) × TakesFullVocabulary r v w

-- sections have one theory and one process, but for numbers
abbrev pub SystemsAreOne : Type 0
SystemsAreOne = (ss : List Section) (v w : FullVocabulary) (th ti : Theory) (p q : Process) → IsSystem ss v th p → IsSystem ss w ti q → (r : Renumbering) × TakesReading r v w th ti p q

-- a text has one theory and one process, but for numbers
abbrev pub TextsHaveOneReading : Type 0
TextsHaveOneReading = (text : List ℕ) (v w : FullVocabulary) (th ti : Theory) (p q : Process) → Specifies text v th p → Specifies text w ti q → (r : Renumbering) × TakesReading r v w th ti p q

-- and the process has the same steps
abbrev pub TheSameHaveTheSameSteps : Type 0
TheSameHaveTheSameSteps = (r : Renumbering) (th ti : Theory) → TakesTheory r th ti → (p q : Process) → AreSame r p q → HaveSameSteps r th ti p q
