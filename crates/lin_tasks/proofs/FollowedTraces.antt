-- Runs with the labels of a trace, of processes that a link pairs and over theories that go on.
use Rattle.std.proofs.Common.{◌≡◌, ◌⊎◌, inl, inr, ℕ, List, [], ◌∷◌, ◌++◌, ap, refl, subst, sym, Option, Some, None}
use Rattle.std.specs.List.{AllByRecursion}
use Rattle.data_theory.specs.EqualityLaws.{Grows, AreAmong}
use Rattle.data_theory.specs.Terms.{Term, put}
use Rattle.data_theory.specs.Equations.{trueᵗ}
use Rattle.data_theory.specs.Environments.{term_in}
use Rattle.data_theory.proofs.GrowthLemmas.{growth_keeps_derivations, growth_keeps_sorts}
use Rattle.process_terms.specs.Labels.{Action, Label, Agree, AgreeAction, equal_args, AgreeInOrder, both_silent, next_agree, at_front, Permuted, nothing_left, one_placed}
use Rattle.process_terms.specs.Processes.{Process}
use Rattle.process_terms.specs.Steps.{Outcome, ended, goes_on, Step}
use Rattle.process_terms.specs.Theories.{Theory, Equals, no_terms, more_terms}
use Rattle.process_terms.proofs.AgreeingLabels.{agree_refl, agree_sym, agree_trans}
use Rattle.bisim_laws.specs.Bisimulations.{Answers, Flipped, Lands, both_go_on}
use Rattle.bisim_laws.specs.LinearProcesses.{Linear, state_of, outcome_of, IsLinear, Fires}
use Rattle.bisim_laws.specs.Links.{Link, Pairs}
use Rattle.bisim_laws.specs.Runs as runs
use Rattle.bisim_laws.specs.Terminations.{terminate_label, LandsOrTerminates, the_first_ends, TerminatingBisimulation}
use Rattle.bisim_laws.specs.TerminatingRuns as agree
use Rattle.bisim_laws.specs.TerminatingRuns.{AgreeEach, AnswersRun, ComesFrom, from_a_run, from_an_end}
use Rattle.bisim_laws.proofs.Firing.{fire, fired}
use Rattle.bisim_laws.proofs.RunsWithTerminate.{runs_answered, runs_come_from}
use Rattle.trace_replay.specs.Replays.{Entry}
use Rattle.trace_replay.specs.Runs.{Run, no_step, one_step, AgreeWith, no_labels, one_label, UpTo, that_line, line_before}
use Rattle.lin_driver.specs.Headline.{IsGoodBy}
use Rattle.lin_driver.specs.declared.ending.Ending.{Ending}
use Rattle.lin_driver.specs.declared.ending.Ending.TheVariants.{End, Terminate}
use Rattle.lin_tasks.specs.ShownVerdicts.{CanFollow, CanFollowBy, FollowsAndTerminates}

-- a run with labels that agree with those of the entries
pub record FollowsFrom (th : Theory) (o : Outcome) (es : List Entry) : Type 0 where
  pub labels : List Label
  pub outcome : Outcome
  pub run : Run th o labels outcome
  pub agree : AgreeWith th labels es

-- ---- by a relation whose steps are answered
-- what agrees with a label in order agrees with what that one agrees with
agrees_too : (th : Theory) (m n k : Label) → AgreeInOrder th m n → Agree th m k → Agree th n k
agrees_too th m n k a h = record { reordered = h.reordered; in_order = agree_trans (agree_sym a) h.in_order; same = h.same }

module _ (th : Theory) (R : Process → Process → Type 0) (answers : Answers th R R) where
  pub followed : {ms : List Label} {es : List Entry} {p q r : Outcome} → Run th p ms r → AgreeWith th ms es → Lands R p q → FollowsFrom th q es
  followed {q = q} no_step no_labels lands = record { labels = []; outcome = q; run = no_step; agree = no_labels }
  followed (one_step {p = x} {q = next} {m = m} step run) (one_label {e = e} agree rest) (both_go_on {q = y} r) =
      let a = answers x y m next r step in
      let on = followed run rest a.lands in
      record { labels = a.label ∷ on.labels; outcome = on.outcome; run = one_step a.step on.run; agree = one_label (agrees_too th m a.label e.label a.agree agree) on.agree }

-- ---- by a link that is good with `Terminate`
to_run : {th : Theory} {p r : Outcome} {ms : List Label} → runs.Run th p ms r → Run th p ms r
to_run runs.no_step = no_step
to_run (runs.one_step step run) = one_step step (to_run run)

of_run : {th : Theory} {p r : Outcome} {ms : List Label} → Run th p ms r → runs.Run th p ms r
of_run no_step = runs.no_step
of_run (one_step step run) = runs.one_step step (of_run run)

run_then : {th : Theory} {p q r : Outcome} {ms ns : List Label} → Run th p ms q → Run th q ns r → Run th p (ms ++ ns) r
run_then no_step more = more
run_then (one_step step run) more = one_step step (run_then run more)

-- labels that agree with those of a run agree with the entries
agree_through : {th : Theory} {ms ns : List Label} {es : List Entry} → AgreeEach th ms ns → AgreeWith th ms es → AgreeWith th ns es
agree_through agree.no_labels no_labels = no_labels
agree_through {th} (agree.one_label {m = m} {n = n} a each) (one_label {e = e} b with_) = one_label (agrees_too th m n e.label a b) (agree_through each with_)

-- the last entry
pub record LastSplit (th : Theory) (front : List Label) (last : Label) (es : List Entry) : Type 0 where
  pub entries : List Entry
  pub entry : Entry
  pub all : es ≡ entries ++ entry ∷ []
  pub agree : AgreeWith th front entries
  pub last_agrees : Agree th last entry.label

last_split : {th : Theory} (front : List Label) {last : Label} {es : List Entry} → AgreeWith th (front ++ last ∷ []) es → LastSplit th front last es
last_split [] (one_label {e = e} a no_labels) = record { entries = []; entry = e; all = refl; agree = no_labels; last_agrees = a }
last_split (m ∷ front) (one_label {e = e} a with_) =
    let s = last_split front with_ in
    record { entries = e ∷ s.entries; entry = s.entry; all = ap (λ (es : List Entry). e ∷ es) s.all; agree = one_label a s.agree; last_agrees = s.last_agrees }

last_joined : {th : Theory} {ms : List Label} {es : List Entry} {m : Label} (e : Entry) → AgreeWith th ms es → Agree th m e.label → AgreeWith th (ms ++ m ∷ []) (es ++ e ∷ [])
last_joined e no_labels last = one_label last no_labels
last_joined e (one_label a with_) last = one_label a (last_joined e with_ last)

-- what `Terminate` agrees with is `Terminate`
in_order_with_terminate : {th : Theory} {m : Label} → AgreeInOrder th terminate_label m → m ≡ terminate_label
in_order_with_terminate (next_agree (equal_args no_terms) both_silent) = refl

one_alone : {x : Action} {zs : List Action} → Permuted (x ∷ []) zs → zs ≡ x ∷ []
one_alone (one_placed nothing_left at_front) = refl

is_terminate : {th : Theory} {m : Label} → Agree th terminate_label m → m ≡ terminate_label
is_terminate {m = m} a = one_alone (subst (λ (n : Label). Permuted n m) (in_order_with_terminate a.in_order) a.same)

terminate_agrees : (th : Theory) → Agree th terminate_label terminate_label
terminate_agrees th = record { reordered = terminate_label; in_order = agree_refl th terminate_label; same = one_placed nothing_left at_front }

follows_from_runs : {th : Theory} {R : Process → Process → Type 0} {E : Process → Type 0} {p : Process} {ms : List Label} {r : Outcome} {es : List Entry} → ComesFrom th R E p ms r → AgreeWith th ms es → CanFollow th p es ⊎ FollowsAndTerminates th p es
follows_from_runs (from_a_run {ns = ns} {o = o} run each lands) with_ = inl (record { labels = ns; outcome = o; run = to_run run; agree = agree_through each with_ })
follows_from_runs (from_an_end {ms = front} {ns = ns} run each none) with_ =
    let s = last_split front with_ in
    inr (record { front = s.entries; last = s.entry; entries = s.all; is_terminate = is_terminate s.last_agrees; labels = ns; run = to_run run; agree = agree_through each s.agree })

-- a run that ends is answered, and behind that `Terminate`
answered_to_the_end : {th : Theory} {R : Process → Process → Type 0} {E : Process → Type 0} {q : Process} {ns : List Label} {es : List Entry} (e : Entry) → TerminatingBisimulation th R E → AnswersRun th R E q ns ended → AgreeWith th ns es → e.label ≡ terminate_label
    → FollowsFrom th (goes_on q) (es ++ e ∷ [])
answered_to_the_end {th} {R} {E} {q = q} {ns = ns} {es = es} e bisimulation a with_ last = by_end a.run a.agree a.lands
  where
    by_end : {o : Outcome} {ms : List Label} → runs.Run th (goes_on q) ms o → AgreeEach th ns ms → LandsOrTerminates R E ended o → FollowsFrom th (goes_on q) (es ++ e ∷ [])
    by_end {ms = ms} run each (the_first_ends {q = z} h) =
        let t = bisimulation.terminates z h in
        let step = t.each t.label t.outcome t.step in
        let last_agrees : Agree th t.label e.label = subst (λ (m : Label). Agree th m e.label) (sym step.label) (subst (λ (m : Label). Agree th terminate_label m) (sym last) (terminate_agrees th)) in
        record { labels = ms ++ t.label ∷ []; outcome = t.outcome; run = run_then (to_run run) (one_step t.step no_step); agree = last_joined e (agree_through each with_) last_agrees }

-- ---- by a good link
-- the run of a linear process is one of the process that the link pairs with it
pub follows_by : (ending : Ending) (th : Theory) (k : Link) (p q : Process) → IsGoodBy ending th k p q → {ms : List Label} {r : Outcome} {es : List Entry} → Run th (goes_on q) ms r → AgreeWith th ms es → CanFollowBy ending th p es
follows_by End th k p q good {es = es} run with_ =
    let f : FollowsFrom th (goes_on p) es = followed th (Flipped (Pairs th k)) good.follows.back run with_ (both_go_on good.starts) in
    record { labels = f.labels; outcome = f.outcome; run = f.run; agree = f.agree }
follows_by Terminate th k p q good {ms = ms} {r = r} run with_ = follows_from_runs (runs_come_from th k p q good ms r (of_run run)) with_

-- and the other way round
pub is_followed_by : (ending : Ending) (th : Theory) (k : Link) (p q : Process) → IsGoodBy ending th k p q → {es : List Entry} → CanFollowBy ending th p es → FollowsFrom th (goes_on q) es
is_followed_by End th k p q good h = followed th (Pairs th k) good.follows.forth h.run h.agree (both_go_on good.starts)
is_followed_by Terminate th k p q good {es = es} (inl h) =
    let a = runs_answered th k p q good h.labels h.outcome (of_run h.run) in
    record { labels = a.labels; outcome = a.outcome; run = to_run a.run; agree = agree_through a.agree h.agree }
is_followed_by Terminate th k p q good (inr h) =
    subst (FollowsFrom th (goes_on q)) (sym h.entries) (answered_to_the_end h.last good.follows (runs_answered th k p q good h.labels ended (of_run h.run)) h.agree h.is_terminate)

-- ---- over a theory that goes on
module _ (th later : Theory) (grows : Grows th.declared later.declared) (among : AreAmong th.equations later.equations) where
  equals_later : {ts us : List Term} → Equals th ts us → Equals later ts us
  equals_later no_terms = no_terms
  equals_later (more_terms {t = t} {u = u} h k) = more_terms (growth_keeps_derivations th.declared later.declared grows th.equations later.equations among t u h) (equals_later k)

  action_later : {a b : Action} → AgreeAction th a b → AgreeAction later a b
  action_later (equal_args h) = equal_args (equals_later h)

  order_later : {m n : Label} → AgreeInOrder th m n → AgreeInOrder later m n
  order_later both_silent = both_silent
  order_later (next_agree h k) = next_agree (action_later h) (order_later k)

  pub agree_later : {ms : List Label} {es : List Entry} → AgreeWith th ms es → AgreeWith later ms es
  agree_later no_labels = no_labels
  agree_later (one_label h k) = one_label (record { reordered = h.reordered; in_order = order_later h.in_order; same = h.same }) (agree_later k)

  -- a linear process does there what it does before
  module _ (l : Linear) (linear : IsLinear l) where
    fires_later : (ts : List Term) (m : Label) (next : Option (List Term)) → Fires th l ts m next → Fires later l ts m next
    fires_later ts m next f = record {
      summand = f.summand;
      among = f.among;
      environment = f.environment;
      reads = f.reads;
      bound = λ x i. growth_keeps_sorts th.declared later.declared grows [] (term_in f.environment x.var) x.sort (f.bound x i);
      does = record { holds = growth_keeps_derivations th.declared later.declared grows th.equations later.equations among (put (term_in f.environment) f.summand.condition) trueᵗ f.does.holds; label = f.does.label; onward = f.does.onward };
    }

    -- a run with these labels
    pub record RunsLater (o : Option (List Term)) (ms : List Label) : Type 0 where
      pub outcome : Outcome
      pub run : Run later (outcome_of l o) ms outcome

    pub runs_later : (ms : List Label) (o : Option (List Term)) {p q : Outcome} → Run th p ms q → p ≡ outcome_of l o → RunsLater o ms
    runs_later [] o run is = record { outcome = outcome_of l o; run = no_step }
    runs_later (m ∷ ms) None (one_step step run) is = absurd (cc is)
    runs_later (m ∷ ms) (Some ts) (one_step {p = p} {q = q} step run) is =
        let same : Step th (state_of l ts) m q = subst (λ x. Step th x m q) (cc is) step in
        let f = fired th l ts m q linear same in
        let on = runs_later ms f.0 run f.1.1 in
        record { outcome = on.outcome; run = one_step (fire later l ts m f.0 linear (fires_later ts m f.0 f.1.0)) on.run }

-- ---- the first entries
pub first_entries : (number : ℕ) (P : Entry → Type 0) {es front : List Entry} → UpTo number es front → AllByRecursion P es → AllByRecursion P front
first_entries number P (that_line is) h = (h.0, tt)
first_entries number P (line_before up) h = (h.0, first_entries number P up h.1)
