-- Runs by constructor values, and runs.
use Rattle.std.specs.Prelude.{◌≡◌, List, [], ◌∷◌, Some, None}
use Rattle.std.proofs.Common.{subst}
use Rattle.std.specs.List.{Contains}
use Rattle.data_theory.specs.Declarations.{HasSort}
use Rattle.data_theory.specs.Environments.{term_in}
use Rattle.data_theory.specs.Terms.{Term}
use Rattle.process_terms.specs.Labels.{Label}
use Rattle.process_terms.specs.Processes.{Bound}
use Rattle.process_terms.specs.Steps.{Outcome, Step}
use Rattle.bisim_laws.specs.LinearProcesses.{Summand, Linear, state_of, outcome_of, IsLinear, Fires}
use Rattle.bisim_laws.proofs.Firing.{contains_none, fired, fire}
use Rattle.trace_replay.specs.Settings.{Setting, data_in, theory_in}
use Rattle.trace_replay.specs.Listings.{IsConstructorValue}
use Rattle.trace_replay.specs.Replays.{State}
use Rattle.trace_replay.specs.Runs.{Run, no_step, one_step, FiresByValues, RunsByValues, no_firing, one_firing}

-- constructor values for the sums of a linear process have the sums' sorts
abbrev pub ValuesHaveSorts : Setting → Linear → Type 0
ValuesHaveSorts s l = (a : Summand) → Contains l.summands a → (x : Bound) → Contains a.sums x → (t : Term) → IsConstructorValue s.signature x t → HasSort (data_in s) [] t x.sort

module _ (s : Setting) (l : Linear) (linear : IsLinear l) where
  value_fires : ValuesHaveSorts s l → (ts : List Term) (m : Label) (next : State) → FiresByValues s l ts m next → Fires (theory_in s) l ts m next
  value_fires have ts m next f = record {
    summand = f.summand;
    among = f.among;
    environment = f.environment;
    reads = f.reads;
    bound = λ x i. have f.summand f.among x i (term_in f.environment x.var) (f.values x i);
    does = f.does;
  }

  pub value_runs_are_runs : ValuesHaveSorts s l → {o p : State} {ms : List Label} → RunsByValues s l o ms p → Run (theory_in s) (outcome_of l o) ms (outcome_of l p)
  value_runs_are_runs have no_firing = no_step
  value_runs_are_runs have (one_firing {ts = ts} {next = next} {m = m} f r) = one_step (fire (theory_in s) l ts m next linear (value_fires have ts m next f)) (value_runs_are_runs have r)

  -- a run by constructor values with these labels
  pub record RunsSo (o : State) (ms : List Label) : Type 0 where
    pub state : State
    pub run : RunsByValues s l o ms state

  fires_without_sums : ((a : Summand) → Contains l.summands a → a.sums ≡ []) → (ts : List Term) (m : Label) (next : State) → Fires (theory_in s) l ts m next → FiresByValues s l ts m next
  fires_without_sums none ts m next f = record {
    summand = f.summand;
    among = f.among;
    environment = f.environment;
    reads = f.reads;
    values = λ x i. absurd (contains_none x (subst (λ (xs : List Bound). Contains xs x) (none f.summand f.among) i));
    does = f.does;
  }

  pub runs_without_sums : ((a : Summand) → Contains l.summands a → a.sums ≡ []) → (ms : List Label) (o : State) {p q : Outcome} → Run (theory_in s) p ms q → p ≡ outcome_of l o → RunsSo o ms
  runs_without_sums none [] o run is = record { state = o; run = no_firing }
  runs_without_sums none (m ∷ ms) None (one_step step run) is = absurd (cc is)
  runs_without_sums none (m ∷ ms) (Some ts) (one_step {p = p} {q = q} step run) is =
      let same : Step (theory_in s) (state_of l ts) m q = subst (λ x. Step (theory_in s) x m q) (cc is) step in
      let f = fired (theory_in s) l ts m q linear same in
      let r = runs_without_sums none ms f.0 run f.1.1 in
      record { state = r.state; run = one_firing (fires_without_sums none ts m f.0 f.1.0) r.run }
