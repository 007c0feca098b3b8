-- What the verdicts on a trace mean for the runs of a linear process.
use Rattle.std.specs.Prelude.{◌≡◌, ℕ, false, List, [], ◌∷◌, Some}
use Rattle.std.specs.List.{AllByRecursion, Contains}
use Rattle.data_theory.specs.Provable.{Equation}
use Rattle.data_theory.specs.Rewriting.{IsWellFormed}
use Rattle.data_theory.specs.IdTrees.{Tree}
use Rattle.data_theory.specs.WholeSignatures.{IsSignature}
use Rattle.process_terms.specs.Labels.{Label}
use Rattle.process_terms.specs.SignatureEntries.{entries_of}
use Rattle.process_terms.specs.Steps.{Outcome, goes_on}
use Rattle.process_terms.specs.Theories.{IsConsistent}
use Rattle.bisim_laws.specs.LinearProcesses.{Summand, Linear}
use Rattle.lps_core.specs.Fitting.{Fits}
use Rattle.lps_core.specs.PlainLinears.{PlainLinear, linear_of, initial_of, linear_state}
use Rattle.trace_replay.specs.declared.replaying.Verdict.TheVariants.{Accepted, Rejected}
use Rattle.trace_replay.specs.Settings.{Setting, data_in, theory_in}
use Rattle.trace_replay.specs.Pairings.{IsClosedLabel}
use Rattle.trace_replay.specs.Replays.{State, Entry, Replays}
use Rattle.trace_replay.specs.Runs.{Run, RunsByValues, AgreeWith, UpTo}

-- The linear process fits the signature and the trees, the written equations are well formed, and the labels are closed.
pub record IsReplayable (s : Setting) (ts : List Tree) (l : PlainLinear) (es : List Entry) : Type 0 where
  pub signature : IsSignature s.signature
  pub equations : (q : Equation) → Contains s.equations q → IsWellFormed (data_in s) q
  pub fits : Fits s.signature ts l
  pub labels : AllByRecursion (λ (e : Entry). IsClosedLabel (data_in s) e.label) es

abbrev pub meant : Setting → List Tree → PlainLinear → Linear
meant s ts l = linear_of (entries_of s.signature ts) l

abbrev pub start : Setting → List Tree → PlainLinear → State
start s ts l = Some (initial_of (entries_of s.signature ts) l)

-- a run from the first state whose labels agree with the entries
pub record HasRun (s : Setting) (ts : List Tree) (l : PlainLinear) (es : List Entry) : Type 0 where
  pub labels : List Label
  pub outcome : Outcome
  pub run : Run (theory_in s) (goes_on (linear_state (entries_of s.signature ts) l)) labels outcome
  pub agree : AgreeWith (theory_in s) labels es

-- the same where sum variables have constructor values
pub record HasRunByValues (s : Setting) (ts : List Tree) (l : PlainLinear) (es : List Entry) : Type 0 where
  pub labels : List Label
  pub state : State
  pub run : RunsByValues s (meant s ts l) (start s ts l) labels state
  pub agree : AgreeWith (theory_in s) labels es

-- ---- laws
-- an accepted trace is that of a run
abbrev pub AcceptedTracesAreRuns : Type 0
AcceptedTracesAreRuns =
    (s : Setting) (ts : List Tree) (l : PlainLinear) (es : List Entry) → IsReplayable s ts l es
    → Replays s (meant s ts l) (start s ts l ∷ []) false es Accepted → HasRun s ts l es

-- over consistent data a rejected trace is none of a run by constructor values, up to the line with its number
abbrev pub RejectedTracesAreNoRuns : Type 0
RejectedTracesAreNoRuns =
    (s : Setting) (ts : List Tree) (l : PlainLinear) (es : List Entry) (k : ℕ) → IsReplayable s ts l es → IsConsistent (theory_in s)
    → Replays s (meant s ts l) (start s ts l ∷ []) false es (Rejected k) → (front : List Entry) × UpTo k es front × ¬ (HasRunByValues s ts l front)

-- a run by constructor values is a run, and where there are no sum variables each run is one
abbrev pub RunsByValuesAreRuns : Type 0
RunsByValuesAreRuns = (s : Setting) (ts : List Tree) (l : PlainLinear) (es : List Entry) → IsReplayable s ts l es → HasRunByValues s ts l es → HasRun s ts l es

abbrev pub RunsWithoutSumsAreByValues : Type 0
RunsWithoutSumsAreByValues =
    (s : Setting) (ts : List Tree) (l : PlainLinear) (es : List Entry) → IsReplayable s ts l es
    → ((a : Summand) → Contains (meant s ts l).summands a → a.sums ≡ []) → HasRun s ts l es → HasRunByValues s ts l es
