-- The laws of verdicts.
use Rattle.std.specs.Prelude.{◌≡◌, List, [], ◌∷◌}
use Rattle.std.proofs.Common.{refl, subst, inl, inr}
use Rattle.std.specs.List.{Contains}
use Rattle.data_theory.specs.Declarations.{IsData}
use Rattle.data_theory.specs.IdTrees.{Tree}
use Rattle.data_theory.specs.IdTerms.{variable_sorts}
use Rattle.data_theory.proofs.IdDataLemmas.{meant_data_are_data}
use Rattle.process_terms.specs.SignatureEntries.{entries_of}
use Rattle.process_terms.proofs.AgreeingLabels.{equals_refl}
use Rattle.bisim_laws.specs.LinearProcesses.{sorts, IsWellSorted, NextEquals, both_with}
use Rattle.bisim_laws.proofs.Firing.{contains_cases, contains_none, contains_first}
use Rattle.lps_core.specs.PlainLinears.{PlainLinear, initial_of}
use Rattle.lps_core.proofs.Staying.{what_fits_is_sorted}
use Rattle.trace_replay.specs.Settings.{Setting, data_in, theory_in}
use Rattle.trace_replay.specs.Replays.{State, Entry}
use Rattle.trace_replay.specs.ReplayLaws.{IsReplayable, meant, start, HasRunByValues, AcceptedTracesAreRuns, RejectedTracesAreNoRuns, RunsByValuesAreRuns, RunsWithoutSumsAreByValues}
use Rattle.trace_replay.proofs.DecidedTerms.{HaveStateSorts}
use Rattle.trace_replay.proofs.ListedValues.{whole_are_listed, listed_have_sorts, values_have_sorts}
use Rattle.trace_replay.proofs.ValueRuns.{value_runs_are_runs, runs_without_sums}
use Rattle.trace_replay.proofs.WholeReplays.{HasRunFrom, accepted_runs, rejected_runs}

module _ (s : Setting) (ts : List Tree) (l : PlainLinear) (es : List Entry) (r : IsReplayable s ts l es) where
  data_are : IsData (data_in s)
  data_are = meant_data_are_data s.signature r.signature.table r.signature.roles

  well_sorted : IsWellSorted (data_in s) (variable_sorts s.signature) (meant s ts l)
  well_sorted = what_fits_is_sorted s.signature ts l r.signature.table r.signature.complete r.fits

  start_sorted : (o : State) → Contains (start s ts l ∷ []) o → HaveStateSorts (data_in s) (sorts (meant s ts l).params) o
  start_sorted o i = elim (contains_cases (start s ts l) o [] i) as (λ _. HaveStateSorts (data_in s) (sorts (meant s ts l).params) o) [
    | inl e ↦ subst (HaveStateSorts (data_in s) (sorts (meant s ts l).params)) e r.fits.closed
    | inr j ↦ absurd (contains_none o j)
  ]

  start_equal : NextEquals (theory_in s) (start s ts l) (start s ts l)
  start_equal = both_with (equals_refl (theory_in s) (initial_of (entries_of s.signature ts) l))

pub accepted_traces_are_runs : AcceptedTracesAreRuns
accepted_traces_are_runs s ts l es r replays =
    let f = accepted_runs s (data_are s ts l es r) r.equations (variable_sorts s.signature) (meant s ts l) r.fits.linear (well_sorted s ts l es r) (listed_have_sorts s ts l r.signature r.fits) replays refl r.labels (start_sorted s ts l es r) in
    let is : start s ts l ≡ f.state = elim (contains_cases (start s ts l) f.state [] f.among) as (λ _. start s ts l ≡ f.state) [ inl e ↦ e | inr j ↦ absurd (contains_none f.state j) ] in
    let run : HasRunFrom s (meant s ts l) (start s ts l) es = f.runs (start s ts l) (subst (λ (o : State). NextEquals (theory_in s) (start s ts l) o) is (start_equal s ts l es r)) in
    record { labels = run.labels; outcome = run.outcome; run = run.run; agree = run.agree }

pub rejected_traces_are_no_runs : RejectedTracesAreNoRuns
rejected_traces_are_no_runs s ts l es k r consistent replays =
    let f = rejected_runs s (data_are s ts l es r) r.equations (variable_sorts s.signature) (meant s ts l) r.fits.linear (well_sorted s ts l es r) (listed_have_sorts s ts l r.signature r.fits) consistent (whole_are_listed s) k replays refl r.labels (start_sorted s ts l es r) in
    (f.front, f.up_to, λ (h : HasRunByValues s ts l f.front). f.no_run (start s ts l) (contains_first (start s ts l) []) (start s ts l) (start_equal s ts l es r) h.labels h.state h.run h.agree)

pub runs_by_values_are_runs : RunsByValuesAreRuns
runs_by_values_are_runs s ts l es r h = record {
  labels = h.labels;
  outcome = _;
  run = value_runs_are_runs s (meant s ts l) r.fits.linear (values_have_sorts s ts l r.signature r.fits) h.run;
  agree = h.agree;
}

pub runs_without_sums_are_by_values : RunsWithoutSumsAreByValues
runs_without_sums_are_by_values s ts l es r none h =
    let f = runs_without_sums s (meant s ts l) r.fits.linear none h.labels (start s ts l) h.run refl in record { labels = h.labels; state = f.state; run = f.run; agree = h.agree }
