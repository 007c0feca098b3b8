-- Answers in code, and what they say.
use Rattle.std.specs.Prelude.{◌≡◌, ◌<◌, ◌⊎◌, ℕ, zero, suc, List, [], ◌∷◌, length, map, Option, Some, slice_get}
use Rattle.std.specs.Global.{Vec}
use Rattle.std.specs.List.{All, AllZip, Contains}
use Rattle.data_theory.specs.Declarations.{HaveSorts}
use Rattle.data_theory.specs.Environments.{terms_of}
use Rattle.data_theory.specs.IdData.{data_meant}
use Rattle.data_theory.specs.IdTerms.{sort_under}
use Rattle.data_theory.specs.IdTrees.{Tree}
use Rattle.data_theory.specs.Provable.{Equation}
use Rattle.data_theory.specs.Signature.{Sig}
use Rattle.data_theory.specs.Terms.{Sort, Term}
use Rattle.data_theory.specs.declared.ids.SortId.{SortId}
use Rattle.data_theory.specs.declared.ids.TermId.{TermId}
use Rattle.data_rewriter.specs.Standing.{IsTerm, term_at}
use Rattle.process_terms.specs.Communication.{equalities}
use Rattle.process_terms.specs.Labels.{Action, Label}
use Rattle.process_terms.specs.Meanings.{action_of, label_of}
use Rattle.process_terms.specs.PlainProcesses.{PlainAction}
use Rattle.process_terms.specs.SignatureEntries.{entries_of}
use Rattle.lps_core.specs.Fitting.{IsActionOf}
use Rattle.lps_core.specs.PlainLinears.{PlainLinear, initial_of}
use Rattle.lps_simulator.specs.Options.{TermMove}
use Rattle.trace_replay.specs.Decidings.{Answer, hold, fail, stay_open, ComeOut}
use Rattle.trace_replay.specs.Pairings.{Pairing, label_equalities, IsClosedAction}
use Rattle.trace_replay.specs.Settings.{Setting}
use Rattle.aut_check.specs.declared.verdicts.AutVerdict.{AutVerdict}
use Rattle.aut_check.specs.declared.verdicts.AutVerdict.TheVariants.{Bisimilar, Mismatch, Undecided}
use Rattle.aut_check.specs.declared.verdicts.StateVerdict.{StateVerdict}
use Rattle.aut_check.specs.declared.verdicts.StateVerdict.TheVariants as states
use Rattle.aut_check.specs.Matching.{Match as Matches, CouldStillMatch, Differ, DoNotMatch, EndAlike, StartComes, state_equalities}
use Rattle.aut_check.specs.PlainSystems.{PlainEdge, PlainSystem, meant_state}
use Rattle.aut_check.specs.Systems.{FileState, IsStateAt, System}
use Rattle.aut_check.specs.Verdicts.{EachEdge, EachMove, Judgement, bisimilar, mismatch, undecided, SomeEdge, SomeMove, StateAnswer, is_good, mismatches, is_undecided, sorts_in, system_in}

abbrev pub setting : Sig → List Equation → ℕ → Setting
setting g own fuel = record { signature = g; equations = own; fuel = fuel; bound = 0 }

abbrev pub judgement_of : AutVerdict → Judgement
judgement_of Bisimilar = bisimilar
judgement_of (Mismatch i) = mismatch i
judgement_of (Undecided i) = undecided i

abbrev pub state_answer : StateVerdict → StateAnswer
state_answer states.Good = is_good
state_answer states.Differs = mismatches
state_answer states.Open = is_undecided

-- ---- two lists of terms
-- closed terms of these sorts
pub record AreClosed (g : Sig) (ts : List Tree) (ss : List SortId) (ids : List TermId) : Type 0 where
  pub over : All (IsTerm g ts) ids
  pub closed : HaveSorts (data_meant g) [] (terms_of (map (term_at g ts) ids)) (map (sort_under g) ss)

-- ---- two labels
-- an action over closed terms
pub record IsClosedIn (g : Sig) (ts : List Tree) (x : PlainAction) : Type 0 where
  pub stands : IsActionOf g ts x
  pub closed : IsClosedAction (data_meant g) (action_of (entries_of g ts) x)

-- how the arguments of two actions compare, where these have the same name and sorts
abbrev pub ActionsCome : Setting → Action → Action → Answer → Type 0
ActionsCome s a b hold = ((a.name ≡ b.name) × (a.sorts ≡ b.sorts)) × ComeOut s (equalities a.sorts a.args b.args) hold
ActionsCome s a b stay_open = ((a.name ≡ b.name) × (a.sorts ≡ b.sorts)) × ComeOut s (equalities a.sorts a.args b.args) stay_open
ActionsCome s a b fail = a.name ≡ b.name → a.sorts ≡ b.sorts → ComeOut s (equalities a.sorts a.args b.args) fail

-- an action with each action of a label, and each action of a label with those of another
abbrev pub IsActionRow : Setting → Label → Action → List Answer → Type 0
IsActionRow s n a row = AllZip (ActionsCome s a) n row

abbrev pub AreActionRows : Setting → Label → Label → List (List Answer) → Type 0
AreActionRows s m n rows = AllZip (IsActionRow s n) m rows

-- for some pairing they come out so, and no pairing comes out better
abbrev pub LabelsCome : Setting → Label → Label → Answer → Type 0
LabelsCome s m n hold = ((p : Pairing m n) × ComeOut s (label_equalities m p.paired) hold) × ((p : Pairing m n) → (a : Answer) × ComeOut s (label_equalities m p.paired) a)
LabelsCome s m n stay_open = ((p : Pairing m n) × ComeOut s (label_equalities m p.paired) stay_open) × ((p : Pairing m n) → ComeOut s (label_equalities m p.paired) fail ⊎ ComeOut s (label_equalities m p.paired) stay_open)
LabelsCome s m n fail = (p : Pairing m n) → ComeOut s (label_equalities m p.paired) fail

-- ---- next states
-- both have ended or neither has, and their terms come out so; or only one has ended
pub data NextComes (s : Setting) (ss : List Sort) (next : Option (List Term)) (o : FileState) : Answer → Type 0 where
  end_alike : {a : Answer} → EndAlike next o → ComeOut s (state_equalities ss next o) a → NextComes s ss next o a
  one_ended : (EndAlike next o → ⊥) → NextComes s ss next o fail

-- ---- moves and edges
-- how a move and an edge compare, over all pairings
abbrev pub PairComes : Setting → List Sort → TermMove → Label → FileState → Answer → Type 0
PairComes s ss m n o hold = Matches s ss m n o
PairComes s ss m n o stay_open = DoNotMatch s ss m n o × CouldStillMatch s ss m n o
PairComes s ss m n o fail = Differ s ss m n o

-- how a move compares with the edge of this number
abbrev pub EdgeComesWith : Setting → List Sort → List Tree → PlainSystem → TermMove → ℕ → Answer → Type 0
EdgeComesWith s ss ts f m k a = (e : PlainEdge) (o : Option (List TermId)) → slice_get f.edges k ≡ Some e → slice_get f.states e.to ≡ Some o → PairComes s ss m (label_of (entries_of s.signature ts) e.label) (meant_state s.signature ts o) a

-- with each of these edges, and each move with each
abbrev pub IsMoveRow : Setting → List Sort → List Tree → PlainSystem → List ℕ → TermMove → List Answer → Type 0
IsMoveRow s ss ts f numbers m row = AllZip (EdgeComesWith s ss ts f m) numbers row

abbrev pub AreMoveRows : Setting → List Sort → List Tree → PlainSystem → List ℕ → List TermMove → List (List Answer) → Type 0
AreMoveRows s ss ts f numbers moves rows = AllZip (IsMoveRow s ss ts f numbers) moves rows

-- how a move compares with all edges from a state, and an edge with all moves
abbrev pub MoveComes : Setting → List Sort → System → ℕ → TermMove → Answer → Type 0
MoveComes s ss f i m hold = SomeEdge f i (Matches s ss m)
MoveComes s ss f i m stay_open = EachEdge f i (DoNotMatch s ss m) × SomeEdge f i (CouldStillMatch s ss m)
MoveComes s ss f i m fail = EachEdge f i (Differ s ss m)

abbrev pub EdgeComes : Setting → List Sort → List TermMove → Label → FileState → Answer → Type 0
EdgeComes s ss moves n o hold = SomeMove moves (λ m. Matches s ss m n o)
EdgeComes s ss moves n o stay_open = EachMove moves (λ m. DoNotMatch s ss m n o) × SomeMove moves (λ m. CouldStillMatch s ss m n o)
EdgeComes s ss moves n o fail = EachMove moves (λ m. Differ s ss m n o)

-- how all moves compare, and all edges
abbrev pub MovesCome : Setting → List Sort → System → ℕ → List TermMove → StateVerdict → Type 0
MovesCome s ss f i moves states.Good = EachMove moves (λ m. SomeEdge f i (Matches s ss m))
MovesCome s ss f i moves states.Differs = EachMove moves (λ m. SomeEdge f i (Matches s ss m) ⊎ EachEdge f i (Differ s ss m)) × SomeMove moves (λ m. EachEdge f i (Differ s ss m))
MovesCome s ss f i moves states.Open = SomeMove moves (λ m. EachEdge f i (DoNotMatch s ss m) × SomeEdge f i (CouldStillMatch s ss m))

abbrev pub EdgesCome : Setting → List Sort → System → ℕ → List TermMove → StateVerdict → Type 0
EdgesCome s ss f i moves states.Good = EachEdge f i (λ n o. SomeMove moves (λ m. Matches s ss m n o))
EdgesCome s ss f i moves states.Differs = EachEdge f i (λ n o. SomeMove moves (λ m. Matches s ss m n o) ⊎ EachMove moves (λ m. Differ s ss m n o)) × SomeEdge f i (λ n o. EachMove moves (λ m. Differ s ss m n o))
EdgesCome s ss f i moves states.Open = SomeEdge f i (λ n o. EachMove moves (λ m. DoNotMatch s ss m n o) × SomeMove moves (λ m. CouldStillMatch s ss m n o))

-- ---- states
-- each edge leads to a state of the file
abbrev pub EdgesAreStates : PlainSystem → Type 0
EdgesAreStates f = (k : ℕ) (e : PlainEdge) → slice_get f.edges k ≡ Some e → e.to < length f.states

-- how the start compares
pub record TheStart (s : Setting) (ts : List Tree) (l : PlainLinear) (f : PlainSystem) (a : Answer) : Type 0 where
  pub state : FileState
  pub at : IsStateAt (system_in s ts f) f.first state
  pub comes : StartComes s (sorts_in s ts l) (initial_of (entries_of s.signature ts) l) state a

-- the numbers of the edges from a state
pub record AreEdgesFrom (f : PlainSystem) (i : ℕ) (numbers : List ℕ) : Type 0 where
  pub within : (k : ℕ) → Contains numbers k → (e : PlainEdge) × ((slice_get f.edges k ≡ Some e) × (e.from ≡ i))
  pub whole : (k : ℕ) (e : PlainEdge) → slice_get f.edges k ≡ Some e → e.from ≡ i → Contains numbers k

-- the numbers at a state
abbrev pub numbers_at : List (Vec ℕ) → ℕ → List ℕ
numbers_at [] i = []
numbers_at (v ∷ vs) zero = v.items
numbers_at (v ∷ vs) (suc i) = numbers_at vs i

-- for each state the numbers of the first so many edges from it
pub record AreSorted (f : PlainSystem) (count : ℕ) (lists : List (Vec ℕ)) : Type 0 where
  pub size : length lists ≡ length f.states
  pub within : (i k : ℕ) → Contains (numbers_at lists i) k → (e : PlainEdge) × ((slice_get f.edges k ≡ Some e) × (e.from ≡ i))
  pub whole : (i k : ℕ) (e : PlainEdge) → k < count → slice_get f.edges k ≡ Some e → e.from ≡ i → Contains (numbers_at lists i) k
