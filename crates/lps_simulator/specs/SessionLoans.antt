-- What a session is once what was lent of it is given back.
use Rattle.std.specs.Prelude.{◌≡◌, Some, None, MatchResult, Result, ⊤}
use Rattle.std.specs.Borrow.{follows_so, Fml, MutBor, Bor}
use mathlib.Core.Option.{none}
use Rattle.data_theory.specs.declared.no_memory.NoMemory.{NoMemory}
use Rattle.data_theory.specs.Signature.{Sig}
use Rattle.data_theory.specs.IdTrees.{Tree}
use Rattle.std.specs.Prelude.{List}
use Rattle.lps_simulator.specs.declared.options.Options.{Options}
use Rattle.lps_simulator.specs.declared.session.Session.{Session}
use Rattle.lps_simulator.specs.contracts.session.Session.{the_row}
use Rattle.lps_simulator.specs.OptionsInCode.{plain_options}
use Rattle.lps_simulator.specs.Sessions.{session_linear, session_state, session_options, SessionFits}

-- It has the process and the state that it had, and the options that were lent, or none where there was no memory for them. It fits.
pub record HasListed (g : Sig) (ts : List Tree) (old : Session) (r : Result (Bor Options) NoMemory) (new : Session) : Type 0 where
  pub linear : session_linear new ≡ session_linear old
  pub state : session_state new ≡ session_state old
  pub options : MatchResult r (λ (o : Bor Options). session_options new ≡ Some (plain_options o.now)) (λ (e : NoMemory). session_options new ≡ None)
  pub fits : SessionFits g ts new

abbrev pub LendsOptions : Sig → List Tree → MutBor Session → Result (Bor Options) NoMemory → Fml
LendsOptions g ts s r = follows_so the_row the_row s.ghost_name none (λ _ _. ⊤) (λ n. HasListed g ts s.now r n)
