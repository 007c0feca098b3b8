-- States in code.
use Rattle.std.specs.Prelude.{◌≡◌, ◌++◌, Bool, List, [], ◌∷◌, cond, map, option_map, Option, Some, None, Vec, IfSome}
use Rattle.std.specs.Global.{Global}
use Rattle.std.specs.List.{All}
use Rattle.data_theory.specs.declared.ids.TermId.{TermId}
use Rattle.data_theory.specs.Signature.{Sig}
use Rattle.data_theory.specs.IdTrees.{Tree}
use Rattle.data_rewriter.specs.Standing.{IsTerm, term_at}
use Rattle.trace_replay.specs.declared.states.States.{States}
use Rattle.trace_replay.specs.Replays.{State}

abbrev pub running : States → List (List TermId)
running states = map (λ (v : Vec TermId Global). v.items) states.running.keys

abbrev pub ended_state : Bool → List (Option (List TermId))
ended_state ended = cond ended (None ∷ []) []

-- those that go on, and behind them the end, where it is one of them
abbrev pub plain_states : States → List (Option (List TermId))
plain_states states = map (λ (ids : List TermId). Some ids) (running states) ++ ended_state states.ended

-- what a state means
abbrev pub meant_state : Sig → List Tree → Option (List TermId) → State
meant_state g ts o = option_map (map (term_at g ts)) o

-- its terms are those of the signature and the pool
abbrev pub StateStands : Sig → List Tree → Option (List TermId) → Type 0
StateStands g ts o = IfSome o (All (IsTerm g ts))

abbrev pub StatesStand : Sig → List Tree → States → Type 0
StatesStand g ts states = All (StateStands g ts) (plain_states states)

abbrev pub meant_states : Sig → List Tree → States → List State
meant_states g ts states = map (meant_state g ts) (plain_states states)
