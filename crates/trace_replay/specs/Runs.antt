-- Runs of processes, and of linear processes whose sum variables have constructor values.
use Rattle.std.specs.Prelude.{◌≡◌, ℕ, List, [], ◌∷◌, Some}
use Rattle.std.specs.List.{Contains}
use Rattle.data_theory.specs.Environments.{Environment, term_in}
use Rattle.data_theory.specs.Terms.{Term}
use Rattle.process_terms.specs.Labels.{Label, Agree}
use Rattle.process_terms.specs.Processes.{Bound, Process}
use Rattle.process_terms.specs.Steps.{Outcome, goes_on, Step}
use Rattle.process_terms.specs.Theories.{Theory}
use Rattle.bisim_laws.specs.LinearProcesses.{Summand, Linear, variables, reading, Does}
use Rattle.trace_replay.specs.Settings.{Setting, theory_in}
use Rattle.trace_replay.specs.Listings.{IsConstructorValue}
use Rattle.trace_replay.specs.Replays.{State, Entry}

-- ---- runs
-- Run th p ms r: from p the labels are done one after the other, each by a step from where the one before led, and the last leads to r.
pub data Run (th : Theory) : Outcome → List Label → Outcome → Type 0 where
  no_step : {p : Outcome} → Run th p [] p
  one_step : {p : Process} {q r : Outcome} {m : Label} {ms : List Label} → Step th p m q → Run th q ms r → Run th (goes_on p) (m ∷ ms) r

-- ---- with constructor values
-- At the arguments ts a summand does m, where each of its sum variables has a constructor value.
pub record FiresByValues (s : Setting) (l : Linear) (ts : List Term) (m : Label) (next : State) : Type 0 where
  pub summand : Summand
  pub among : Contains l.summands summand
  pub environment : Environment
  pub reads : reading environment (variables l.params) ≡ ts
  pub values : (x : Bound) → Contains summand.sums x → IsConstructorValue s.signature x (term_in environment x.var)
  pub does : Does (theory_in s) summand environment m next

-- such firings one after the other
pub data RunsByValues (s : Setting) (l : Linear) : State → List Label → State → Type 0 where
  no_firing : {o : State} → RunsByValues s l o [] o
  one_firing : {ts : List Term} {next o : State} {m : Label} {ms : List Label} → FiresByValues s l ts m next → RunsByValues s l next ms o → RunsByValues s l (Some ts) (m ∷ ms) o

-- ---- labels of a trace
-- the labels agree with those of the entries, one by one
pub data AgreeWith (th : Theory) : List Label → List Entry → Type 0 where
  no_labels : AgreeWith th [] []
  one_label : {m : Label} {e : Entry} {ms : List Label} {es : List Entry} → Agree th m e.label → AgreeWith th ms es → AgreeWith th (m ∷ ms) (e ∷ es)

-- the entries up to one with this number
pub data UpTo (k : ℕ) : List Entry → List Entry → Type 0 where
  that_line : {e : Entry} {es : List Entry} → e.number ≡ k → UpTo k (e ∷ es) (e ∷ [])
  line_before : {e : Entry} {es front : List Entry} → UpTo k es front → UpTo k (e ∷ es) (e ∷ front)
