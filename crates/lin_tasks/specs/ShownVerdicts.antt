-- What the task `replay` shows of a text and a trace.
use Rattle.std.specs.Prelude.{◌≡◌, ◌≤◌, ◌⊎◌, ◌++◌, ℕ, List, [], ◌∷◌, Option, IfSome, codes, decimal, length}
use Rattle.data_theory.specs.declared.ids.NameId.{NameId}
use Rattle.data_theory.specs.IdTrees.{Tree}
use Rattle.data_theory.specs.Provable.{Equation}
use Rattle.data_theory.specs.Signature.{Sig}
use Rattle.mcrl2_syntax.specs.Declarations.{PlainSpec}
use Rattle.mcrl2_text.specs.declared.loading.TheConstants.{MAX_TEXT_LEN}
use Rattle.term_pool.specs.Pools.{PoolContents}
use Rattle.process_terms.specs.Labels.{Label}
use Rattle.process_terms.specs.PlainProcesses.{PlainEquation}
use Rattle.process_terms.specs.Processes.{Process}
use Rattle.process_terms.specs.Steps.{Outcome, ended, goes_on}
use Rattle.process_terms.specs.Theories.{Theory, IsConsistent}
use Rattle.bisim_laws.specs.Terminations.{terminate_label}
use Rattle.lps_core.specs.PlainLinears.{PlainLinear}
use Rattle.trace_replay.specs.declared.replaying.Verdict.{Verdict}
use Rattle.trace_replay.specs.declared.replaying.Verdict.TheVariants.{Accepted, Rejected, Undecided}
use Rattle.trace_replay.specs.DecidedConditions.{setting}
use Rattle.trace_replay.specs.ReplayLaws.{HasRunByValues}
use Rattle.trace_replay.specs.Replays.{Entry}
use Rattle.trace_replay.specs.Runs.{Run, AgreeWith, UpTo}
use Rattle.trace_replay.specs.Settings.{Setting, theory_in}
use Rattle.trace_replay.specs.Verdicts.{IsVerdictOn}
use Rattle.lin_driver.specs.Linearised.{IsLinearised}
use Rattle.lin_driver.specs.LinearOfTexts.{IsLinearOf}
use Rattle.lin_driver.specs.declared.ending.Ending.{Ending}
use Rattle.lin_driver.specs.declared.ending.Ending.TheVariants.{End, Terminate}
use Rattle.lin_driver.specs.declared.methods.Method.{Method}
use Rattle.lin_tasks.specs.FirstSteps.{HasNoSums, IsTheoryFor}
use Rattle.lin_answers.specs.declared.status.Status.{Status}
use Rattle.lin_answers.specs.declared.status.Status.TheVariants as statuses

-- ---- verdicts as they are shown
abbrev pub verdict_line : Verdict → List ℕ
verdict_line Accepted = codes "accepted\n"
verdict_line (Rejected number) = codes "rejected " ++ decimal number ++ codes "\n"
verdict_line (Undecided number) = codes "undecided " ++ decimal number ++ codes "\n"

abbrev pub status_of_verdict : Verdict → Status
status_of_verdict Accepted = statuses.Done
status_of_verdict (Rejected number) = statuses.No
status_of_verdict (Undecided number) = statuses.Undecided

-- The bytes show the verdict of the linear process on the trace. `No` is the status exactly where it is rejected, and `Undecided` where it is undecided.
pub record ShowsVerdict (g : Sig) (own : List Equation) (fuel bound : ℕ) (ts : List Tree) (l : PlainLinear) (trace : List ℕ) (status : Status) (shown : List ℕ) : Type 0 where
  pub verdict : Verdict
  pub on_trace : IsVerdictOn (setting g own fuel bound) ts l trace verdict
  pub shows : shown ≡ verdict_line verdict
  pub status_is : status ≡ status_of_verdict verdict

-- ---- runs of a process with the labels of a trace
-- some run of the process has labels that agree with those of the entries, one by one
pub record CanFollow (th : Theory) (p : Process) (es : List Entry) : Type 0 where
  pub labels : List Label
  pub outcome : Outcome
  pub run : Run th (goes_on p) labels outcome
  pub agree : AgreeWith th labels es

-- some run of the process that ends has labels that agree with those of all entries but the last one, and that one alone is `Terminate`
pub record FollowsAndTerminates (th : Theory) (p : Process) (es : List Entry) : Type 0 where
  pub front : List Entry
  pub last : Entry
  pub entries : es ≡ front ++ last ∷ []
  pub is_terminate : last.label ≡ terminate_label
  pub labels : List Label
  pub run : Run th (goes_on p) labels ended
  pub agree : AgreeWith th labels front

-- some run of the process has labels that agree with those of the entries; with `Terminate` this label may follow, where the run ends
abbrev pub CanFollowBy : Ending → Theory → Process → List Entry → Type 0
CanFollowBy End th p es = CanFollow th p es
CanFollowBy Terminate th p es = CanFollow th p es ⊎ FollowsAndTerminates th p es

-- Up to the line with this number the linear process has no run in which sum variables have constructor values; and where it has no sums, this process has no run at all. With `Terminate` it
-- then has, where that line alone is `Terminate`, no run up to the line before that ends.
pub record HasNoRunUpTo (ending : Ending) (number : ℕ) (s : Setting) (ts : List Tree) (l : PlainLinear) (p : Process) (es : List Entry) : Type 0 where
  pub front : List Entry
  pub up_to : UpTo number es front
  pub by_values : ¬ (HasRunByValues s ts l front)
  pub without_sums : HasNoSums l → ¬ (CanFollowBy ending (theory_in s) p front)

-- ---- of a text
-- There is the linear process of the text by the ending and the method, which stands for the text. The bytes show its verdict on the trace, over the text's equations.
-- Over consistent data the text's process has a run with the labels of a trace that is accepted, behind whose end `Terminate` may follow. One that is rejected at a line has none up to there: the linear process none by
-- constructor values, and where no summand has a sum the text's process none at all.
pub record IsReplayed (ending : Ending) (method : Method) (fuel bound : ℕ) (text trace : List ℕ) (status : Status) (shown : List ℕ) : Type 0 where
  pub spec : PlainSpec
  pub signature : Sig
  pub pool : PoolContents
  pub equations : List PlainEquation
  pub name : NameId
  pub linear : PlainLinear
  pub components : ℕ
  pub is_linear : IsLinearOf ending method text spec signature pool equations name linear components
  pub linearised : IsLinearised ending text spec signature pool.trees linear
  pub answer : ShowsVerdict signature linearised.theory.equations fuel bound pool.trees linear trace status shown
  pub accepted : answer.verdict ≡ Accepted → (th : Theory) → IsTheoryFor signature linearised.theory.equations th → CanFollowBy ending th linearised.process answer.on_trace.entries
  pub rejected : (number : ℕ) → answer.verdict ≡ Rejected number → IsConsistent (theory_in (setting signature linearised.theory.equations fuel bound))
      → HasNoRunUpTo ending number (setting signature linearised.theory.equations fuel bound) pool.trees linear linearised.process answer.on_trace.entries

-- The same of the trace that was read, which is the one that is told, where one is.
pub record IsReplayedAsTold (ending : Ending) (method : Method) (fuel bound : ℕ) (text : List ℕ) (told : Option (List ℕ)) (status : Status) (shown : List ℕ) : Type 0 where
  pub trace : List ℕ
  pub is_told : IfSome told (λ t. trace ≡ t)
  pub short : length trace ≤ MAX_TEXT_LEN
  pub replayed : IsReplayed ending method fuel bound text trace status shown
