-- Sessions, as plain data, and when they fit.
use Rattle.std.specs.Prelude.{◌≡◌, List, Option, Some, None, option_map, IfSome, MatchResult, Result, ⊤}
use Rattle.std.specs.List.{All}
use Rattle.data_theory.specs.declared.ids.TermId.{TermId}
use Rattle.data_theory.specs.Signature.{Sig}
use Rattle.data_theory.specs.IdTrees.{Tree}
use Rattle.lps_core.specs.Fitting.{Fits}
use Rattle.lps_core.specs.PlainLinears.{PlainLinear, plain_linear, plain_next}
use Rattle.lps_simulator.specs.declared.session.Session.{Session}
use Rattle.lps_simulator.specs.OptionsInCode.{PlainMove, PlainOptions, plain_options, IsState, IsMove}

abbrev pub session_linear : Session → PlainLinear
session_linear s = plain_linear s.lin

-- none where it has ended
abbrev pub session_state : Session → Option (List TermId)
session_state s = plain_next s.state

-- none where they weren't asked for in this state
abbrev pub session_options : Session → Option PlainOptions
session_options s = option_map plain_options s.options

-- the linear process fits, and the state and what the moves come to are closed terms of the parameters' sorts
pub record SessionFits (g : Sig) (ts : List Tree) (s : Session) : Type 0 where
  pub linear : Fits g ts (session_linear s)
  pub state : IfSome (session_state s) (IsState g ts (session_linear s).params)
  pub moves : IfSome (session_options s) (λ (o : PlainOptions). All (IsMove g ts (session_linear s).params) o.moves)
