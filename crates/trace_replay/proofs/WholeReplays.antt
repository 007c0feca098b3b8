-- Whole replays: an accepted trace is that of a run, and a rejected one of none by constructor values.
use Rattle.std.specs.Prelude.{◌≡◌, ◌||◌, ℕ, Bool, true, false, List, [], ◌∷◌, Some}
use Rattle.std.proofs.Common.{refl, subst}
use Rattle.std.specs.List.{AllByRecursion, Contains}
use Rattle.data_theory.specs.Terms.{Sort, Term}
use Rattle.data_theory.specs.Declarations.{IsData}
use Rattle.data_theory.specs.Provable.{Equation}
use Rattle.data_theory.specs.Rewriting.{IsWellFormed}
use Rattle.process_terms.specs.Labels.{Label}
use Rattle.process_terms.specs.Processes.{Bound}
use Rattle.process_terms.specs.Steps.{Outcome}
use Rattle.process_terms.specs.Theories.{IsConsistent, AreOfSorts}
use Rattle.process_terms.proofs.AgreeingLabels.{equals_sym}
use Rattle.bisim_laws.specs.LinearProcesses.{Summand, Linear, sorts, outcome_of, IsLinear, IsWellSorted, NextEquals, both_without, both_with}
use Rattle.bisim_laws.proofs.Firing.{contains_first, contains_none, fire}
use Rattle.trace_replay.specs.declared.replaying.Verdict.{Verdict}
use Rattle.trace_replay.specs.declared.replaying.Verdict.TheVariants.{Accepted, Rejected}
use Rattle.trace_replay.specs.Settings.{Setting, data_in, theory_in}
use Rattle.trace_replay.specs.Listings.{IsConstructorValue, IsListed, IsWhole}
use Rattle.trace_replay.specs.Replays.{State, Entry, Takes, LeadTo, Replays, accepted, leads_on, undecided, rejected}
use Rattle.trace_replay.specs.Runs.{Run, no_step, one_step, RunsByValues, no_firing, one_firing, AgreeWith, no_labels, one_label, UpTo, that_line, line_before}
use Rattle.trace_replay.proofs.DecidedTerms.{HaveStateSorts}
use Rattle.trace_replay.specs.Pairings.{IsClosedLabel}
use Rattle.trace_replay.proofs.WayEnvironments.{ListedHaveSorts}
use Rattle.trace_replay.proofs.OneLabel.{taken_sorted, taken_fires_from, firing_kept}

-- a run from a state whose labels agree with the entries
pub record HasRunFrom (s : Setting) (l : Linear) (o : State) (es : List Entry) : Type 0 where
  pub labels : List Label
  pub outcome : Outcome
  pub run : Run (theory_in s) (outcome_of l o) labels outcome
  pub agree : AgreeWith (theory_in s) labels es

abbrev pub AreClosed : Setting → List Entry → Type 0
AreClosed s es = AllByRecursion (λ (e : Entry). IsClosedLabel (data_in s) e.label) es

-- no run by constructor values from a state has labels that agree with the entries
abbrev pub HasNoRunFrom : Setting → Linear → State → List Entry → Type 0
HasNoRunFrom s l o es = (ms : List Label) (p : State) → RunsByValues s l o ms p → AgreeWith (theory_in s) ms es → ⊥

or_false : (a b : Bool) → (a || b) ≡ false → (a ≡ false) × (b ≡ false)
or_false true b h = absurd (cc h)
or_false false b h = (refl, h)

module _ (s : Setting) (ok : IsData (data_in s)) (formed : (q : Equation) → Contains s.equations q → IsWellFormed (data_in s) q) (vs : List Sort) (l : Linear) (linear : IsLinear l)
    (sorted : IsWellSorted (data_in s) vs l) (have : (a : Summand) → Contains l.summands a → ListedHaveSorts s a.sums) where
  -- each of these states has closed terms of the parameters' sorts
  abbrev AreSorted : List State → Type 0
  AreSorted from = (o : State) → Contains from o → HaveStateSorts (data_in s) (sorts l.params) o

  still_sorted : (m : Label) (from to : List State) (doubt : Bool) → LeadTo s l m from to doubt → AreSorted from → AreSorted to
  still_sorted m from to doubt lead all o i = let r = lead.reached o i in taken_sorted s ok formed vs l linear sorted have m r.0 o (all (Some r.0) r.1) r.2

  -- ---- accepted
  one_more_run : (e : Entry) (es : List Entry) (ts : List Term) (next : State) → IsClosedLabel (data_in s) e.label → AreOfSorts (theory_in s) (sorts l.params) ts → Takes s l e.label ts next
      → ((onward : State) → NextEquals (theory_in s) onward next → HasRunFrom s l onward es) → (onward : State) → NextEquals (theory_in s) onward (Some ts) → HasRunFrom s l onward (e ∷ es)
  one_more_run e es ts next closed of_params takes runs _ (both_with {ts = us} equal) =
      let f = taken_fires_from s ok formed vs l linear sorted have e.label us ts next closed of_params (equals_sym equal) takes in
      let r = runs f.onward f.equal in
      record {
        labels = f.label ∷ r.labels;
        outcome = r.outcome;
        run = one_step (fire (theory_in s) l us f.label f.onward linear f.fires) r.run;
        agree = one_label f.agree r.agree;
      }

  pub record RunsFromOne (from : List State) (es : List Entry) : Type 0 where
    pub state : State
    pub among : Contains from state
    pub runs : (onward : State) → NextEquals (theory_in s) onward state → HasRunFrom s l onward es

  pub accepted_runs : {from : List State} {before : Bool} {es : List Entry} {v : Verdict} → Replays s l from before es v → v ≡ Accepted → AreClosed s es → AreSorted from → RunsFromOne from es
  accepted_runs (accepted {o = o} {os = os}) is closed all = record {
    state = o;
    among = contains_first o os;
    runs = λ onward equal. record { labels = []; outcome = outcome_of l onward; run = no_step; agree = no_labels };
  }
  accepted_runs (leads_on {from = from} {os = os} {o = o} {doubt = doubt} {e = e} {es = es} lead rest) is closed all =
      let r = accepted_runs rest is closed.1 (still_sorted e.label from (o ∷ os) doubt lead all) in
      let t = lead.reached r.state r.among in
      record { state = Some t.0; among = t.1; runs = one_more_run e es t.0 r.state closed.0 (all (Some t.0) t.1) t.2 r.runs }
  accepted_runs (undecided lead doubt) is closed all = absurd (cc is)
  accepted_runs (rejected lead doubt) is closed all = absurd (cc is)

  -- ---- rejected
  no_doubt_before : {from : List State} {before : Bool} {es : List Entry} {v : Verdict} → Replays s l from before es v → (k : ℕ) → v ≡ Rejected k → before ≡ false
  no_doubt_before accepted k is = absurd (cc is)
  no_doubt_before (leads_on {before = before} {doubt = doubt} lead rest) k is = (or_false before doubt (no_doubt_before rest k is)).0
  no_doubt_before (undecided lead doubt) k is = absurd (cc is)
  no_doubt_before (rejected {before = before} {doubt = doubt} lead none) k is = (or_false before doubt none).0

  pub record HasNoRunUpTo (from : List State) (k : ℕ) (es : List Entry) : Type 0 where
    pub front : List Entry
    pub up_to : UpTo k es front
    pub no_run : (o : State) → Contains from o → (onward : State) → NextEquals (theory_in s) onward o → HasNoRunFrom s l onward front

  module _ (consistent : IsConsistent (theory_in s)) (serve : (x : Bound) (t : Term) → IsWhole s x → IsConstructorValue s.signature x t → IsListed s x t) where
    -- what runs from a state leads on from a state that is kept
    no_longer_run : (e : Entry) (front : List Entry) (from to : List State) → LeadTo s l e.label from to false → IsClosedLabel (data_in s) e.label → AreSorted from
        → ((o : State) → Contains to o → (onward : State) → NextEquals (theory_in s) onward o → HasNoRunFrom s l onward front)
        → (o : State) → Contains from o → (onward : State) → NextEquals (theory_in s) onward o → HasNoRunFrom s l onward (e ∷ front)
    no_longer_run e front from to lead closed all none _ i _ (both_with {ts = us} {us = ts} equal) _ p (one_firing {next = next} {m = n} f run) (one_label agree agree_rest) =
        let k = firing_kept s ok formed vs l linear sorted have consistent serve e.label n from to ts us next lead i closed (all (Some ts) i) equal f agree in
        none k.next k.among next k.equal _ p run agree_rest
    no_longer_run e front from to lead closed all none _ i _ (both_with {ts = us} {us = ts} equal) _ _ no_firing agree = elim agree [ ]
    no_longer_run e front from to lead closed all none _ i _ both_without _ _ no_firing agree = elim agree [ ]

    pub rejected_runs : {from : List State} {before : Bool} {es : List Entry} {v : Verdict} (k : ℕ) → Replays s l from before es v → v ≡ Rejected k → AreClosed s es → AreSorted from → HasNoRunUpTo from k es
    rejected_runs k accepted is closed all = absurd (cc is)
    rejected_runs k (undecided lead doubt) is closed all = absurd (cc is)
    rejected_runs k (leads_on {from = from} {os = os} {o = o} {before = before} {doubt = doubt} {e = e} {es = es} lead rest) is closed all =
        let r = rejected_runs k rest is closed.1 (still_sorted e.label from (o ∷ os) doubt lead all) in
        let sure : LeadTo s l e.label from (o ∷ os) false = subst (λ (b : Bool). LeadTo s l e.label from (o ∷ os) b) (or_false before doubt (no_doubt_before rest k is)).1 lead in
        record { front = e ∷ r.front; up_to = line_before r.up_to; no_run = no_longer_run e r.front from (o ∷ os) sure closed.0 all r.no_run }
    rejected_runs k (rejected {from = from} {before = before} {doubt = doubt} {e = e} {es = es} lead none) is closed all =
        let sure : LeadTo s l e.label from [] false = subst (λ (b : Bool). LeadTo s l e.label from [] b) (or_false before doubt none).1 lead in
        record { front = e ∷ []; up_to = that_line (cc is); no_run = no_longer_run e [] from [] sure closed.0 all (λ o i. absurd (contains_none o i)) }
