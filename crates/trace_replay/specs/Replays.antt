-- The states to which a trace leads, and the verdict.
use Rattle.std.specs.Prelude.{◌≡◌, ◌||◌, ℕ, Bool, true, false, List, [], ◌∷◌, Option, Some, IsTrue, ◌⊎◌}
use Rattle.std.specs.List.{AllByRecursion, Contains}
use Rattle.data_theory.specs.Environments.{term_in}
use Rattle.data_theory.specs.Terms.{Term, put}
use Rattle.process_terms.specs.Labels.{Label, put_label}
use Rattle.process_terms.specs.Processes.{Bound}
use Rattle.bisim_laws.specs.LinearProcesses.{Summand, Linear, put_next}
use Rattle.lps_simulator.specs.Options.{environment_at}
use Rattle.lps_simulator.specs.Rewritten.{NextIsRewritten}
use Rattle.trace_replay.specs.declared.replaying.Verdict.{Verdict}
use Rattle.trace_replay.specs.declared.replaying.Verdict.TheVariants.{Accepted, Rejected, Undecided}
use Rattle.trace_replay.specs.Settings.{Setting, data_in}
use Rattle.trace_replay.specs.Listings.{AreListed, IsWhole}
use Rattle.trace_replay.specs.Decidings.{Answer, ComeOut, hold, fail, stay_open}
use Rattle.trace_replay.specs.Pairings.{Pairing, label_equalities}

-- ---- states
-- the arguments of the linear process's call, or the end
abbrev pub State : Type 0
State = Option (List Term)

-- ---- ways
-- A way to do a label: a summand that matters, that is one with a pairing of its actions with the label's, and a combination of values for
-- its sums.
pub record Way (s : Setting) (l : Linear) (m : Label) : Type 0 where
  pub summand : Summand
  pub among : Contains l.summands summand
  pub pairing : Pairing summand.label m
  pub values : List Term
  pub listed : AreListed s summand.sums values

-- the condition, and the equalities of the paired arguments
abbrev pub conditions : Linear → Summand → Label → List Term → List Term → List Term
conditions l a paired vs ts = put (term_in (environment_at l a ts vs)) a.condition ∷ label_equalities (put_label (environment_at l a ts vs) a.label) paired

abbrev pub next_under : Linear → Summand → List Term → List Term → Option (List Term)
next_under l a vs ts = put_next (environment_at l a ts vs) a.next

-- the way comes out so in a state with these arguments
abbrev pub WayComesOut : {s : Setting} {l : Linear} {m : Label} → List Term → Way s l m → Answer → Type 0
WayComesOut {s} {l} ts w o = ComeOut s (conditions l w.summand w.pairing.paired w.values ts) o

-- ---- one label
-- the label leads from a state with these arguments to this one, on this way
pub record Takes (s : Setting) (l : Linear) (m : Label) (ts : List Term) (next : State) : Type 0 where
  pub way : Way s l m
  pub holds : WayComesOut ts way hold
  pub becomes : NextIsRewritten (data_in s) s.equations s.fuel (next_under l way.summand way.values ts) next

-- what became of a way in a state: it fails; it is left open, and there is doubt; or it is taken
pub data IsTried (s : Setting) (l : Linear) (m : Label) (to : List State) (doubt : Bool) (ts : List Term) (w : Way s l m) : Type 0 where
  it_fails : WayComesOut ts w fail → IsTried s l m to doubt ts w
  it_is_open : WayComesOut ts w stay_open → IsTrue doubt → IsTried s l m to doubt ts w
  it_is_taken : {next : State} → WayComesOut ts w hold → NextIsRewritten (data_in s) s.equations s.fuel (next_under l w.summand w.values ts) next → Contains to next → IsTried s l m to doubt ts w

-- in one of these states a way was left open, or a summand that matters has a sum whose values aren't whole
pub data IsDoubtful (s : Setting) (l : Linear) (m : Label) (from : List State) : Type 0 where
  open_way : {ts : List Term} → Contains from (Some ts) → (w : Way s l m) → WayComesOut ts w stay_open → IsDoubtful s l m from
  cut_sum : {ts : List Term} {a : Summand} {x : Bound} → Contains from (Some ts) → Contains l.summands a → Pairing a.label m → Contains a.sums x → ¬ (IsWhole s x) → IsDoubtful s l m from

-- From these states the label leads to those, and to no others, where each way is tried once in each state that hasn't ended. There is doubt
-- exactly where a way was left open or a sum was cut.
pub record LeadTo (s : Setting) (l : Linear) (m : Label) (from to : List State) (doubt : Bool) : Type 0 where
  pub reached : (next : State) → Contains to next → (ts : List Term) × Contains from (Some ts) × Takes s l m ts next
  pub tried : (ts : List Term) → Contains from (Some ts) → (w : Way s l m) → IsTried s l m to doubt ts w
  pub whole : (ts : List Term) → Contains from (Some ts) → (a : Summand) → Contains l.summands a → Pairing a.label m → AllByRecursion (IsWhole s) a.sums ⊎ IsTrue doubt
  pub doubtful : IsTrue doubt → IsDoubtful s l m from

-- ---- a whole trace
-- a label with the number of its line
pub record Entry : Type 0 where
  pub number : ℕ
  pub label : Label

-- The labels lead on from some states, with or without doubt before them. The trace is accepted where a state is left at the end. Where
-- none is left behind a line, the trace is undecided there if there was doubt up to that line, and else it is rejected.
pub data Replays (s : Setting) (l : Linear) : List State → Bool → List Entry → Verdict → Type 0 where
  accepted : {o : State} {os : List State} {before : Bool} → Replays s l (o ∷ os) before [] Accepted
  leads_on : {from os : List State} {o : State} {before doubt : Bool} {e : Entry} {es : List Entry} {v : Verdict} → LeadTo s l e.label from (o ∷ os) doubt → Replays s l (o ∷ os) (before || doubt) es v
      → Replays s l from before (e ∷ es) v
  undecided : {from : List State} {before doubt : Bool} {e : Entry} {es : List Entry} → LeadTo s l e.label from [] doubt → (before || doubt) ≡ true → Replays s l from before (e ∷ es) (Undecided e.number)
  rejected : {from : List State} {before doubt : Bool} {e : Entry} {es : List Entry} → LeadTo s l e.label from [] doubt → (before || doubt) ≡ false → Replays s l from before (e ∷ es) (Rejected e.number)
