-- What is looked at where a label is tried, and what comes of it.
use Rattle.std.specs.Prelude.{◌≡◌, ◌⊎◌, Bool, List, map, Option, IsTrue}
use Rattle.std.specs.List.{Contains}
use Rattle.data_theory.specs.Environments.{term_in}
use Rattle.data_theory.specs.Terms.{Term, put}
use Rattle.process_terms.specs.Processes.{Bound}
use Rattle.bisim_laws.specs.LinearProcesses.{Summand, Linear}
use Rattle.lps_simulator.specs.Options.{environment_at}
use Rattle.lps_simulator.specs.Rewritten.{NextIsRewritten}
use Rattle.trace_replay.specs.Settings.{Setting, data_in}
use Rattle.trace_replay.specs.Listings.{AreListed, IsWhole}
use Rattle.trace_replay.specs.Decidings.{ComeOut, hold, fail, stay_open}
use Rattle.trace_replay.specs.Replays.{State, next_under}

-- conditions with the next terms of their summand, for one combination of values in one state; or a sum, whose values may not be whole
pub data Attempt : Type 0 where
  combination : List Term → Option (List Term) → Attempt
  a_sum : Bound → Attempt

-- its conditions hold, and its next terms are rewritten to this state
abbrev pub MakesState : Setting → Attempt → State → Type 0
MakesState s (combination cs next) o = ComeOut s cs hold × NextIsRewritten (data_in s) s.equations s.fuel next o
MakesState s (a_sum x) o = ⊥

abbrev pub LeavesDoubt : Setting → Attempt → Type 0
LeavesDoubt s (combination cs next) = ComeOut s cs stay_open
LeavesDoubt s (a_sum x) = ¬ (IsWhole s x)

-- it needs no state and no doubt, or there are those that it needs
pub data IsSettled (s : Setting) (to : List State) (doubt : Bool) : Attempt → Type 0 where
  it_fails : {cs : List Term} {next : Option (List Term)} → ComeOut s cs fail → IsSettled s to doubt (combination cs next)
  it_is_whole : {x : Bound} → IsWhole s x → IsSettled s to doubt (a_sum x)
  it_is_doubtful : {a : Attempt} → LeavesDoubt s a → IsTrue doubt → IsSettled s to doubt a
  it_leads : {a : Attempt} {o : State} → MakesState s a o → Contains to o → IsSettled s to doubt a

-- All that is looked at is settled, and each state that is new, and the doubt, come from something that was looked at.
pub record AreTried (s : Setting) (looked_at : Attempt → Type 0) (old new : List State) (doubt : Bool) : Type 0 where
  pub kept : (o : State) → Contains old o → Contains new o
  pub reached : (o : State) → Contains new o → Contains old o ⊎ ((a : Attempt) × (looked_at a × MakesState s a o))
  pub settled : (a : Attempt) → looked_at a → IsSettled s new doubt a
  pub doubtful : IsTrue doubt → (a : Attempt) × (looked_at a × LeavesDoubt s a)

-- ---- a summand in a state
-- open conditions for a combination of values
abbrev pub combination_at : Linear → Summand → List Term → List Term → List Term → Attempt
combination_at l a ts cs vs = combination (map (put (term_in (environment_at l a ts vs))) cs) (next_under l a vs ts)

-- the combinations of its listed values, and its sums
pub data OfSummand (s : Setting) (l : Linear) (a : Summand) (ts cs : List Term) : Attempt → Type 0 where
  with_values : {vs : List Term} → AreListed s a.sums vs → OfSummand s l a ts cs (combination_at l a ts cs vs)
  its_sum : {x : Bound} → Contains a.sums x → OfSummand s l a ts cs (a_sum x)

-- some combinations of values
abbrev pub OfCombinations : Linear → Summand → List Term → List Term → List (List Term) → Attempt → Type 0
OfCombinations l a ts cs vss t = (vs : List Term) × (Contains vss vs × (t ≡ combination_at l a ts cs vs))
