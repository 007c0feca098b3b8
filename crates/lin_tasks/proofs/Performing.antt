-- What a linear process does is done by the process that a good link pairs with it.
use Rattle.std.proofs.Common.{◌≡◌, ◌⊎◌, inl, inr, ℕ, zero, suc, List, [], ◌∷◌, ◌++◌, ◌∙◌, append-nil, append_assoc, refl, sym, subst, Option, Some, None}
use Rattle.std.specs.Prelude.{Contains, slice_get, option_map}
use Rattle.data_theory.specs.declared.ids.TermId.{TermId}
use Rattle.data_theory.specs.IdTrees.{Tree}
use Rattle.data_theory.specs.Provable.{Equation}
use Rattle.data_theory.specs.Signature.{Sig}
use Rattle.data_theory.specs.Terms.{Term}
use Rattle.term_pool.proofs.DeclaredConstants.{grown_itself}
use Rattle.data_rewriter.specs.Simplifying.{AreLater}
use Rattle.process_terms.specs.Theories.{Theory, Equals, no_terms}
use Rattle.process_terms.specs.Labels.{Label, AgreeInOrder, both_silent, equal_args, next_agree}
use Rattle.process_terms.specs.Processes.{Process}
use Rattle.process_terms.specs.Steps.{Outcome, ended, goes_on, Step}
use Rattle.process_terms.specs.SignatureEntries.{entries_of}
use Rattle.process_terms.proofs.AgreeingLabels.{agree_trans, equals_sym}
use Rattle.bisim_laws.specs.Bisimulations.{Lands, both_end, both_go_on, Flipped, Bisimulation, joined}
use Rattle.bisim_laws.specs.LinearProcesses.{Linear, linear_table, state_of, outcome_of, NextEquals, both_without, both_with}
use Rattle.bisim_laws.specs.Links.{Link, Same, Then, Pairs, PairsEnd}
use Rattle.bisim_laws.specs.Runs.{Run, no_step, one_step}
use Rattle.bisim_laws.specs.Sameness.{Alike, by_data, joined_up, equal_call}
use Rattle.bisim_laws.specs.TerminatingRuns.{AgreeEach, no_labels, one_label, ComesFrom, from_a_run, from_an_end}
use Rattle.bisim_laws.specs.Terminations.{terminate_label, ComesToDeadlock, comes_to_deadlock, LandsOrTerminates, the_first_ends, the_first_goes_on, TerminatingBisimulation, end_joined}
use Rattle.bisim_laws.proofs.AlikeProcesses.{alike_answers, alike_refl}
use Rattle.bisim_laws.proofs.ComposedLinks.{same_good, then_good}
use Rattle.bisim_laws.proofs.PuttingEqualData.{tables_refl}
use Rattle.bisim_laws.proofs.TerminatingLinks.{then_terminating}
use Rattle.lps_core.specs.PlainLinears.{PlainLinear, linear_of}
use Rattle.lps_core.proofs.Members.{In, here, there, in_contains}
use Rattle.lps_core.proofs.Staying.{what_fits_stays}
use Rattle.lps_simulator.specs.OptionLaws.{IsStepOf}
use Rattle.lps_simulator.specs.Options.{TermMove}
use Rattle.lps_simulator.specs.OptionsInCode.{meant_move, terms_at}
use Rattle.lps_simulator.proofs.OptionLaws.{moves_are_steps}
use Rattle.chosen_moves.specs.TakenMoves.{Pick, TakesMoves, none_taken, one_taken}
use Rattle.lin_driver.specs.Headline.{IsGoodBy}
use Rattle.lin_driver.specs.declared.ending.Ending.{Ending}
use Rattle.lin_driver.specs.declared.ending.Ending.TheVariants.{End, Terminate}
use Rattle.lin_tasks.specs.FirstSteps.{CanPerform, CanPerformBy, Performs, nothing_done, one_done, PerformsAndTerminates}
use Rattle.lin_tasks.specs.ShownAfter.{LeadsToPaired, LeadsToPairedBy}

-- ---- elements of lists
at_is_in : {A : Type 0} (xs : List A) (i : ℕ) (x : A) → slice_get xs i ≡ Some x → In x xs
at_is_in {A} [] i x e = absurd (none_there e)
  where
    none_there : {x : A} → None ≡ Some x → ⊥
    none_there q = cc
at_is_in (y ∷ xs) zero x e = let q : y ≡ x = cc in subst (λ z. In z (y ∷ xs)) q here
at_is_in (y ∷ xs) (suc i) x e = there (at_is_in xs i x e)

pub at_among : {A : Type 0} (xs : List A) (i : ℕ) (x : A) → slice_get xs i ≡ Some x → Contains xs x
at_among xs i x e = in_contains (at_is_in xs i x e)

-- ---- labels and runs
-- what agrees with `Terminate` is `Terminate`
pub terminate_agrees : {th : Theory} {m : Label} → AgreeInOrder th m terminate_label → m ≡ terminate_label
terminate_agrees (next_agree (equal_args no_terms) both_silent) = refl

-- runs of the same labels, one behind the other
pub performs_then : {th : Theory} {o q r : Outcome} {ms ns : List Label} → Performs th o ms q → Performs th q ns r → Performs th o (ms ++ ns) r
performs_then nothing_done more = more
performs_then (one_done agrees step rest) more = one_done agrees step (performs_then rest more)

run_then : {th : Theory} {o q r : Outcome} {ms ns : List Label} → Run th o ms q → Run th q ns r → Run th o (ms ++ ns) r
run_then no_step more = more
run_then (one_step step rest) more = one_step step (run_then rest more)

agree_then : {th : Theory} {ms ns ks ls : List Label} → AgreeEach th ms ns → AgreeEach th ks ls → AgreeEach th (ms ++ ks) (ns ++ ls)
agree_then no_labels more = more
agree_then (one_label agrees rest) more = one_label agrees (agree_then rest more)

-- a run does the labels that agree with its own
performs : {th : Theory} {o r : Outcome} {ms ns : List Label} → Run th o ns r → AgreeEach th ms ns → Performs th o ms r
performs no_step no_labels = nothing_done
performs (one_step step rest) (one_label agrees agree) = one_done agrees step (performs rest agree)

come_from_performs : {th : Theory} {R : Process → Process → Type 0} {E : Process → Type 0} {p : Process} {ms : List Label} {r : Outcome} → ComesFrom th R E p ms r → CanPerform th p ms ⊎ PerformsAndTerminates th p ms
come_from_performs (from_a_run {o = o} run agree lands) = inl (o, performs run agree)
come_from_performs (from_an_end {ms = front} run agree deadlock) = inr (record { front = front; labels = refl; run = performs run agree })

-- ---- one move
-- the process has a step for a move, to an outcome that L pairs with where the move leads
pub record Follows (th : Theory) (L : Outcome → Outcome → Type 0) (l : Linear) (p : Process) (m : TermMove) : Type 0 where
  pub label : Label
  pub outcome : Outcome
  pub step : Step th p label outcome
  pub agrees : AgreeInOrder th m.label label
  pub lands : L outcome (outcome_of l m.next)

-- by a bisimulation
module _ (th : Theory) (R : Process → Process → Type 0) (bisimulation : Bisimulation th R) (l : Linear) (along : (p : Process) (ts us : List Term) → R p (state_of l ts) → Equals th ts us → R p (state_of l us)) where
  lands_along : {o : Outcome} {a b : Option (List Term)} → NextEquals th a b → Lands (Flipped R) (outcome_of l b) o → Lands R o (outcome_of l a)
  lands_along both_without both_end = both_end
  lands_along (both_with {ts = ts} {us = us} e) (both_go_on {q = q} r) = both_go_on (along q us ts r (equals_sym e))

  follows : (p : Process) (ts : List Term) (m : TermMove) → R p (state_of l ts) → IsStepOf th l ts m → Follows th (Lands R) l p m
  follows p ts m r s =
      let a = bisimulation.back (state_of l ts) p s.label (outcome_of l s.next) r s.step in
      record {
        label = a.label;
        outcome = a.outcome;
        step = a.step;
        agrees = agree_trans s.agrees a.agree;
        lands = lands_along s.equal a.lands;
      }

-- by one with `Terminate`, of what comes from runs
module _ (th : Theory) (R : Process → Process → Type 0) (E : Process → Type 0) (bisimulation : TerminatingBisimulation th R E) (l : Linear) (along : (p : Process) (ts us : List Term) → R p (state_of l ts) → Equals th ts us → R p (state_of l us))
    (end_along : (ts us : List Term) → E (state_of l ts) → Equals th ts us → E (state_of l us)) where
  ends_or_lands_along : {o : Outcome} {a b : Option (List Term)} → NextEquals th a b → LandsOrTerminates R E o (outcome_of l b) → LandsOrTerminates R E o (outcome_of l a)
  ends_or_lands_along both_without lands = elim lands [ ]
  ends_or_lands_along (both_with {ts = ts} {us = us} e) (the_first_ends h) = the_first_ends (end_along us ts h (equals_sym e))
  ends_or_lands_along (both_with {ts = ts} {us = us} e) (the_first_goes_on {p = q} r) = the_first_goes_on (along q us ts r (equals_sym e))

  follows_or_terminates : (p : Process) (ts : List Term) (m : TermMove) → R p (state_of l ts) → IsStepOf th l ts m → Follows th (LandsOrTerminates R E) l p m
  follows_or_terminates p ts m r s =
      let a = bisimulation.back (state_of l ts) p s.label (outcome_of l s.next) r s.step in
      record {
        label = a.label;
        outcome = a.outcome;
        step = a.step;
        agrees = agree_trans s.agrees a.agree;
        lands = ends_or_lands_along s.equal a.lands;
      }

  -- a state with equal data has no steps either
  deadlock_along : {a b : Option (List Term)} → NextEquals th a b → ComesToDeadlock th (outcome_of l b) → ComesToDeadlock th (outcome_of l a)
  deadlock_along both_without deadlock = elim deadlock [ ]
  deadlock_along (both_with {ts = ts} {us = us} e) (comes_to_deadlock none) = comes_to_deadlock (λ m r step.
      let a = alike_answers th (state_of l ts) (state_of l us) m r (by_data (equal_call (tables_refl th (linear_table l)) e)) step in
      none a.label a.outcome a.step)

  -- behind the end `Terminate` comes, and then nothing
  terminates_there : {p : Process} {ms ns : List Label} {n : Label} {r : Outcome} → Run th (goes_on p) ns ended → AgreeEach th ms ns → n ≡ terminate_label → ComesToDeadlock th r → ComesFrom th R E p (ms ++ n ∷ []) r
  terminates_there {p} {ms} run agree is (comes_to_deadlock {p = q} none) = subst (λ (k : Label). ComesFrom th R E p (ms ++ k ∷ []) (goes_on q)) (sym is) (from_an_end run agree none)

  after_run : {p : Process} {ms ns : List Label} {o : Outcome} (ts : List Term) (m : TermMove) → Run th (goes_on p) ns o → AgreeEach th ms ns → LandsOrTerminates R E o (goes_on (state_of l ts)) → IsStepOf th l ts m
      → ComesFrom th R E p (ms ++ m.label ∷ []) (outcome_of l m.next)
  after_run ts m run agree (the_first_goes_on {p = q} r) s =
      let f = follows_or_terminates q ts m r s in
      from_a_run (run_then run (one_step f.step no_step)) (agree_then agree (one_label f.agrees no_labels)) f.lands
  after_run ts m run agree (the_first_ends h) s =
      let c = (bisimulation.terminates (state_of l ts) h).each s.label (outcome_of l s.next) s.step in
      terminates_there run agree (terminate_agrees (subst (λ (k : Label). AgreeInOrder th m.label k) c.label s.agrees)) (deadlock_along s.equal c.deadlock)

  comes_further : {p : Process} {ms : List Label} (ts : List Term) (m : TermMove) → ComesFrom th R E p ms (goes_on (state_of l ts)) → IsStepOf th l ts m → ComesFrom th R E p (ms ++ m.label ∷ []) (outcome_of l m.next)
  comes_further ts m (from_a_run run agree lands) s = after_run ts m run agree lands s
  comes_further ts m (from_an_end run agree none) s = absurd (none s.label (outcome_of l s.next) s.step)

-- ---- steps by a good link
-- the process has a step whose label agrees with this one
pub record HasStep (th : Theory) (p : Process) (m : Label) : Type 0 where
  pub label : Label
  pub outcome : Outcome
  pub step : Step th p label outcome
  pub agrees : AgreeInOrder th m label

pub has_step_forth : (ending : Ending) (th : Theory) (k : Link) (x y : Process) → IsGoodBy ending th k x y → (p q : Process) → Pairs th k p q → (m : Label) (r : Outcome) → Step th p m r → HasStep th q m
has_step_forth End th k x y good p q paired m r step = let a = good.follows.forth p q m r paired step in record { label = a.label; outcome = a.outcome; step = a.step; agrees = a.agree }
has_step_forth Terminate th k x y good p q paired m r step = let a = good.follows.forth p q m r paired step in record { label = a.label; outcome = a.outcome; step = a.step; agrees = a.agree }

pub has_step_back : (ending : Ending) (th : Theory) (k : Link) (x y : Process) → IsGoodBy ending th k x y → (m : Label) (r : Outcome) → Step th y m r → HasStep th x m
has_step_back End th k x y good m r step = let a = good.follows.back y x m r good.starts step in record { label = a.label; outcome = a.outcome; step = a.step; agrees = a.agree }
has_step_back Terminate th k x y good m r step = let a = good.follows.back y x m r good.starts step in record { label = a.label; outcome = a.outcome; step = a.step; agrees = a.agree }

-- ---- where labels lead
module _ (th : Theory) (k : Link) (l : Linear) where
  abbrev R : Process → Process → Type 0
  R = Pairs th (Then k Same)

  abbrev E : Process → Type 0
  E = PairsEnd th (Then k Same)

  -- the link pairs a state as it pairs one with equal data
  equal_states : (us vs : List Term) → Equals th us vs → Alike th (state_of l us) (state_of l vs)
  equal_states us vs e = by_data (equal_call (tables_refl th (linear_table l)) e)

  along : (q : Process) (us vs : List Term) → R q (state_of l us) → Equals th us vs → R q (state_of l vs)
  along q us vs (joined r s) e = joined r (joined_up s (equal_states us vs e))

  end_along : (us vs : List Term) → E (state_of l us) → Equals th us vs → E (state_of l vs)
  end_along us vs (end_joined h s) e = end_joined h (joined_up s (equal_states us vs e))

  -- it is good up to what is the same
  pub same_behind : (ending : Ending) (p q : Process) → IsGoodBy ending th k p q → IsGoodBy ending th (Then k Same) p q
  same_behind End p q good = then_good th k Same p q q good (same_good th q q (alike_refl th q))
  same_behind Terminate p q good = then_terminating th k Same p q q good (same_good th q q (alike_refl th q))

  pub leads_first : (ending : Ending) (p : Process) (ts : List Term) → IsGoodBy ending th k p (state_of l ts) → LeadsToPairedBy ending th k l p [] (Some ts)
  leads_first End p ts good = record { outcome = goes_on p; run = nothing_done; lands = both_go_on (same_behind End p (state_of l ts) good).starts }
  leads_first Terminate p ts good = from_a_run no_step no_labels (the_first_goes_on (same_behind Terminate p (state_of l ts) good).starts)

  led_further : Bisimulation th R → {p : Process} {ms : List Label} {o : Outcome} (ts : List Term) (m : TermMove) → Performs th (goes_on p) ms o → Lands R o (goes_on (state_of l ts)) → IsStepOf th l ts m
      → LeadsToPaired th k l p (ms ++ m.label ∷ []) m.next
  led_further bisimulation ts m run (both_go_on {p = q} r) s =
      let f = follows th R bisimulation l along q ts m r s in
      record { outcome = f.outcome; run = performs_then run (one_done f.agrees f.step nothing_done); lands = f.lands }

  -- one move more
  pub leads_further : (ending : Ending) (x y : Process) → IsGoodBy ending th k x y → (p : Process) (ms : List Label) (ts : List Term) (m : TermMove) → LeadsToPairedBy ending th k l p ms (Some ts) → IsStepOf th l ts m
      → LeadsToPairedBy ending th k l p (ms ++ m.label ∷ []) m.next
  leads_further End x y good p ms ts m led s = led_further (same_behind End x y good).follows ts m led.run led.lands s
  leads_further Terminate x y good p ms ts m led s = comes_further th R E (same_behind Terminate x y good).follows l along end_along ts m led s

  -- the process does these labels
  pub performs_by : (ending : Ending) (p : Process) (ms : List Label) (state : Option (List Term)) → LeadsToPairedBy ending th k l p ms state → CanPerformBy ending th p ms
  performs_by End p ms state led = (led.outcome, led.run)
  performs_by Terminate p ms state led = come_from_performs led

-- ---- move after move
module _ (g : Sig) (own : List Equation) (fuel bound : ℕ) (l : PlainLinear) (th : Theory) (later : AreLater g own th.declared th.equations) (lin : Linear) (Leads : List Label → Option (List Term) → Type 0)
    (further : (ms : List Label) (ts : List Term) (m : TermMove) → Leads ms (Some ts) → IsStepOf th lin ts m → Leads (ms ++ m.label ∷ []) m.next) where
  -- the labels lead to where the linear process stands; that means there what it meant
  pub record HasLed (labels : List Label) (vs : List Tree) (last : Option (List TermId)) : Type 0 where
    pub leads : Leads labels (option_map (terms_at g vs) last)
    pub same : linear_of (entries_of g vs) l ≡ lin

  led_behind : {picks : List Pick} {ts vs : List Tree} {state last : Option (List TermId)} {labels : List Label} → TakesMoves g own fuel bound l picks ts state vs last labels → linear_of (entries_of g ts) l ≡ lin
      → (before : List Label) → Leads before (option_map (terms_at g ts) state) → HasLed (before ++ labels) vs last
  led_behind (none_taken {ts = ts} {state = state}) same before led = record { leads = subst (λ (ms : List Label). Leads ms (option_map (terms_at g ts) state)) (sym (append-nil before)) led; same = same }
  led_behind (one_taken {ts = ts} {us = us} {vs = vs} {state = state} {last = last} {labels = labels} found m place has kept picked stands rest) same before led =
      let among = at_among found.moves place m stands in
      let n = meant_move g us m in
      let s = subst (λ (k : Linear). IsStepOf th k (terms_at g ts state) n) same (moves_are_steps g own fuel bound ts us l state found has m among th later) in
      let stays = what_fits_stays g g ts us l has.signature.table has.signature.complete (record { signature = grown_itself g; pool = kept }) has.fits in
      let on = led_behind rest (stays.0 ∙ same) (before ++ n.label ∷ []) (further before (terms_at g ts state) n led s) in
      record { leads = subst (λ (ms : List Label). Leads ms (option_map (terms_at g vs) last)) (append_assoc before (n.label ∷ []) labels) on.leads; same = on.same }

  pub led : {picks : List Pick} {ts vs : List Tree} {state last : Option (List TermId)} {labels : List Label} → TakesMoves g own fuel bound l picks ts state vs last labels → linear_of (entries_of g ts) l ≡ lin → Leads [] (option_map (terms_at g ts) state)
      → HasLed labels vs last
  led takes same first = led_behind takes same [] first
