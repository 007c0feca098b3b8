-- Runs of two processes of which the second one never ends.
use Rattle.std.specs.Prelude.{List, [], ◌∷◌, ◌++◌}
use Rattle.process_terms.specs.Theories.{Theory}
use Rattle.process_terms.specs.Labels.{Label, AgreeInOrder}
use Rattle.process_terms.specs.Processes.{Process}
use Rattle.process_terms.specs.Steps.{Outcome, ended, goes_on}
use Rattle.bisim_laws.specs.Terminations.{terminate_label, IsDeadlock, LandsOrTerminates}
use Rattle.bisim_laws.specs.Runs.{Run}
use Rattle.bisim_laws.specs.Links.{Link, Pairs, PairsEnd, IsGoodWithTerminate}

-- labels that agree in order, one by one
pub data AgreeEach (th : Theory) : List Label → List Label → Type 0 where
  no_labels : AgreeEach th [] []
  one_label : {m n : Label} {ms ns : List Label} → AgreeInOrder th m n → AgreeEach th ms ns → AgreeEach th (m ∷ ms) (n ∷ ns)

-- What a run of the second process with these labels comes from: a run of the first one with labels that agree, which goes on in a
-- paired state or ends; and where it ends, `Terminate` may follow, and then nothing.
pub data ComesFrom (th : Theory) (R : Process → Process → Type 0) (E : Process → Type 0) (p : Process) : List Label → Outcome → Type 0 where
  from_a_run : {ms ns : List Label} {o r : Outcome} → Run th (goes_on p) ns o → AgreeEach th ms ns → LandsOrTerminates R E o r → ComesFrom th R E p ms r
  from_an_end : {ms ns : List Label} {q : Process} → Run th (goes_on p) ns ended → AgreeEach th ms ns → IsDeadlock th q → ComesFrom th R E p (ms ++ terminate_label ∷ []) (goes_on q)

-- a run of the second process that answers one of the first
pub record AnswersRun (th : Theory) (R : Process → Process → Type 0) (E : Process → Type 0) (q : Process) (ns : List Label) (o : Outcome) : Type 0 where
  pub labels : List Label
  pub outcome : Outcome
  pub run : Run th (goes_on q) labels outcome
  pub agree : AgreeEach th ns labels
  pub lands : LandsOrTerminates R E o outcome

-- ---- laws
abbrev pub RunsComeFromRuns : Type 0
RunsComeFromRuns =
    (th : Theory) (l : Link) (p q : Process) → IsGoodWithTerminate th l p q → (ms : List Label) (r : Outcome) → Run th (goes_on q) ms r → ComesFrom th (Pairs th l) (PairsEnd th l) p ms r

abbrev pub RunsAreAnswered : Type 0
RunsAreAnswered =
    (th : Theory) (l : Link) (p q : Process) → IsGoodWithTerminate th l p q → (ns : List Label) (o : Outcome) → Run th (goes_on p) ns o → AnswersRun th (Pairs th l) (PairsEnd th l) q ns o
