-- Bisimulation with a process that never ends: an action `Terminate` takes the place of the end.
use Rattle.std.specs.Prelude.{◌≡◌, [], ◌∷◌}
use Rattle.process_terms.specs.Names.{Name}
use Rattle.process_terms.specs.Theories.{Theory}
use Rattle.process_terms.specs.Labels.{Label}
use Rattle.process_terms.specs.Processes.{Process}
use Rattle.process_terms.specs.Steps.{Outcome, ended, goes_on, Step}
use Rattle.bisim_laws.specs.Sameness.{Alike}
use Rattle.bisim_laws.specs.Bisimulations.{Replies, Flipped, UpTo}

-- an action without arguments, alone
abbrev pub without_arguments : Name → Label
without_arguments a = record { name = a; sorts = []; args = [] } ∷ []

-- the bytes of `Terminate`
abbrev pub terminate_name : Name
terminate_name = 84 ∷ 101 ∷ 114 ∷ 109 ∷ 105 ∷ 110 ∷ 97 ∷ 116 ∷ 101 ∷ []

abbrev pub terminate_label : Label
terminate_label = without_arguments terminate_name

-- ---- the state that is paired with the end
abbrev pub IsDeadlock : Theory → Process → Type 0
IsDeadlock th p = (m : Label) (r : Outcome) → Step th p m r → ⊥

-- the outcome is a state without steps
pub data ComesToDeadlock (th : Theory) : Outcome → Type 0 where
  comes_to_deadlock : {p : Process} → IsDeadlock th p → ComesToDeadlock th (goes_on p)

pub record IsLastStep (th : Theory) (m : Label) (r : Outcome) : Type 0 where
  pub label : m ≡ terminate_label
  pub deadlock : ComesToDeadlock th r

-- it has a step, and each of its steps has the label `Terminate` alone and leads to a state without steps
pub record Terminates (th : Theory) (q : Process) : Type 0 where
  pub label : Label
  pub outcome : Outcome
  pub step : Step th q label outcome
  pub each : (m : Label) (r : Outcome) → Step th q m r → IsLastStep th m r

-- ---- the relation
-- the second one goes on: in a state that R pairs with the first one's, or in one that E pairs with the first one's end
pub data LandsOrTerminates (R : Process → Process → Type 0) (E : Process → Type 0) : Outcome → Outcome → Type 0 where
  the_first_ends : {q : Process} → E q → LandsOrTerminates R E ended (goes_on q)
  the_first_goes_on : {p q : Process} → R p q → LandsOrTerminates R E (goes_on p) (goes_on q)

-- a relation of outcomes with its sides exchanged
abbrev pub Exchanged : (Outcome → Outcome → Type 0) → Outcome → Outcome → Type 0
Exchanged L r s = L s r

pub record TerminatingBisimulation (th : Theory) (R : Process → Process → Type 0) (E : Process → Type 0) : Type 0 where
  pub forth : Replies th R (LandsOrTerminates R E)
  pub back : Replies th (Flipped R) (Exchanged (LandsOrTerminates R E))
  pub terminates : (q : Process) → E q → Terminates th q

-- q where E pairs the end with some state that S pairs with q
pub data EndJoined (E : Process → Type 0) (S : Process → Process → Type 0) : Process → Type 0 where
  end_joined : {z q : Process} → E z → S z q → EndJoined E S q

-- the steps of states that R pairs are answered, up to what is the same
pub record TerminatingProgress (th : Theory) (R : Process → Process → Type 0) (E : Process → Type 0) : Type 0 where
  pub forth : Replies th R (LandsOrTerminates (UpTo th R) (EndJoined E (Alike th)))
  pub back : Replies th (Flipped R) (Exchanged (LandsOrTerminates (UpTo th R) (EndJoined E (Alike th))))
  pub terminates : (q : Process) → E q → Terminates th q
