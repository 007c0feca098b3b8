-- What a verdict on the states of a file is. Two verdicts may be right only where a chain of more uses than the fuel starts.
use Rattle.std.specs.Prelude.{◌≡◌, ◌≢◌, ◌⊎◌, ◌<◌, ℕ, List, [], map, Option, Some, None, slice_get}
use Rattle.std.specs.List.{All, Contains}
use Rattle.data_theory.specs.IdTrees.{Tree}
use Rattle.data_theory.specs.Terms.{Sort}
use Rattle.data_theory.specs.declared.ids.TermId.{TermId}
use Rattle.process_terms.specs.Labels.{Label}
use Rattle.process_terms.specs.SignatureEntries.{entries_of}
use Rattle.bisim_laws.specs.LinearProcesses.{sorts}
use Rattle.lps_core.specs.PlainLinears.{PlainLinear, initial_of, linear_of}
use Rattle.lps_simulator.specs.declared.options.Open.{Open}
use Rattle.lps_simulator.specs.Options.{TermMove}
use Rattle.lps_simulator.specs.OptionsInCode.{PlainOptions, AreOptions, IsMove, meant_move}
use Rattle.trace_replay.specs.Decidings.{hold, fail, stay_open}
use Rattle.aut_check.specs.Matching.{CouldStillMatch, Differ, DoNotMatch, Match, StartComes}
use Rattle.aut_check.specs.PlainSystems.{PlainSystem, meant_system}
use Rattle.trace_replay.specs.Settings.{Setting}
use Rattle.aut_check.specs.Systems.{FileState, HasEdge, IsStateAt, System}

-- ---- some and all
-- some edge from the state i is such for a move
pub record SomeEdge (f : System) (i : ℕ) (K : Label → FileState → Type 0) : Type 0 where
  pub label : Label
  pub to : ℕ
  pub state : FileState
  pub edge : HasEdge f i label to
  pub at : IsStateAt f to state
  pub is : K label state

abbrev pub EachEdge : System → ℕ → (Label → FileState → Type 0) → Type 0
EachEdge f i K = (n : Label) (j : ℕ) (o : FileState) → HasEdge f i n j → IsStateAt f j o → K n o

pub record SomeMove (moves : List TermMove) (K : TermMove → Type 0) : Type 0 where
  pub move : TermMove
  pub among : Contains moves move
  pub is : K move

abbrev pub EachMove : List TermMove → (TermMove → Type 0) → Type 0
EachMove moves K = (m : TermMove) → Contains moves m → K m

-- ---- one state
pub data StateAnswer : Type 0 where
  is_good : StateAnswer
  mismatches : StateAnswer
  is_undecided : StateAnswer

-- what the linear process can do there, and the summands that are undecided
pub data CanDo (s : Setting) (ts : List Tree) (l : PlainLinear) : Option (List TermId) → List TermMove → List Open → Type 0 where
  nothing : CanDo s ts l None [] []
  options : {state : List TermId} (us : List Tree) (found : PlainOptions) → AreOptions s.signature s.equations s.fuel s.bound ts us l state found → All (IsMove s.signature us l.params) found.moves
      → CanDo s ts l (Some state) (map (meant_move s.signature us) found.moves) found.undecided

-- A state is good where nothing is undecided, each move matches an edge and each edge a move. It is undecided where something is, or where a
-- move or an edge that matches nothing could still match. Else it is a mismatch.
pub data StateComes (s : Setting) (ss : List Sort) (f : System) (i : ℕ) (moves : List TermMove) (opens : List Open) : StateAnswer → Type 0 where
  all_match : opens ≡ [] → EachMove moves (λ m. SomeEdge f i (Match s ss m)) → EachEdge f i (λ n o. SomeMove moves (λ m. Match s ss m n o)) → StateComes s ss f i moves opens is_good
  options_open : opens ≢ [] → StateComes s ss f i moves opens is_undecided
  move_open : SomeMove moves (λ m. EachEdge f i (DoNotMatch s ss m) × SomeEdge f i (CouldStillMatch s ss m)) → StateComes s ss f i moves opens is_undecided
  edge_open : SomeEdge f i (λ n o. EachMove moves (λ m. DoNotMatch s ss m n o) × SomeMove moves (λ m. CouldStillMatch s ss m n o)) → StateComes s ss f i moves opens is_undecided
  one_differs : opens ≡ [] → EachMove moves (λ m. SomeEdge f i (Match s ss m) ⊎ EachEdge f i (Differ s ss m)) → EachEdge f i (λ n o. SomeMove moves (λ m. Match s ss m n o) ⊎ EachMove moves (λ m. Differ s ss m n o))
      → SomeMove moves (λ m. EachEdge f i (Differ s ss m)) ⊎ SomeEdge f i (λ n o. EachMove moves (λ m. Differ s ss m n o)) → StateComes s ss f i moves opens mismatches

abbrev pub sorts_in : Setting → List Tree → PlainLinear → List Sort
sorts_in s ts l = sorts (linear_of (entries_of s.signature ts) l).params

abbrev pub system_in : Setting → List Tree → PlainSystem → System
system_in s ts f = meant_system s.signature ts f

pub record StateIs (s : Setting) (ts : List Tree) (l : PlainLinear) (f : PlainSystem) (i : ℕ) (o : Option (List TermId)) (a : StateAnswer) : Type 0 where
  pub moves : List TermMove
  pub opens : List Open
  pub can_do : CanDo s ts l o moves opens
  pub comes : StateComes s (sorts_in s ts l) (system_in s ts f) i moves opens a

-- ---- all states
pub data Judgement : Type 0 where
  bisimilar : Judgement
  mismatch : ℕ → Judgement
  undecided : ℕ → Judgement

-- the start is tried first, and then the states from 0; the first one that fails says the rest
pub data Judges (s : Setting) (ts : List Tree) (l : PlainLinear) (f : PlainSystem) : Judgement → Type 0 where
  nothing_fails : {o : FileState} → IsStateAt (system_in s ts f) f.first o → StartComes s (sorts_in s ts l) (initial_of (entries_of s.signature ts) l) o hold
      → ((i : ℕ) (q : Option (List TermId)) → slice_get f.states i ≡ Some q → StateIs s ts l f i q is_good) → Judges s ts l f bisimilar
  start_differs : {o : FileState} → IsStateAt (system_in s ts f) f.first o → StartComes s (sorts_in s ts l) (initial_of (entries_of s.signature ts) l) o fail → Judges s ts l f (mismatch f.first)
  start_is_open : {o : FileState} → IsStateAt (system_in s ts f) f.first o → StartComes s (sorts_in s ts l) (initial_of (entries_of s.signature ts) l) o stay_open → Judges s ts l f (undecided f.first)
  state_differs : {o : FileState} {p : Option (List TermId)} (i : ℕ) → IsStateAt (system_in s ts f) f.first o → StartComes s (sorts_in s ts l) (initial_of (entries_of s.signature ts) l) o hold
      → ((j : ℕ) (q : Option (List TermId)) → j < i → slice_get f.states j ≡ Some q → StateIs s ts l f j q is_good) → slice_get f.states i ≡ Some p → StateIs s ts l f i p mismatches → Judges s ts l f (mismatch i)
  state_is_open : {o : FileState} {p : Option (List TermId)} (i : ℕ) → IsStateAt (system_in s ts f) f.first o → StartComes s (sorts_in s ts l) (initial_of (entries_of s.signature ts) l) o hold
      → ((j : ℕ) (q : Option (List TermId)) → j < i → slice_get f.states j ≡ Some q → StateIs s ts l f j q is_good) → slice_get f.states i ≡ Some p → StateIs s ts l f i p is_undecided → Judges s ts l f (undecided i)
