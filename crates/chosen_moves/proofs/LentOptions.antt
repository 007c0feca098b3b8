-- What a session lends.
use Rattle.std.proofs.Common.{◌≡◌, List, subst, Some, None, Result, Ok}
use Rattle.std.specs.Prelude.{MatchResult}
use Rattle.std.specs.Borrow.{Bor}
use Rattle.data_theory.specs.declared.no_memory.NoMemory.{NoMemory}
use Rattle.data_theory.specs.IdTrees.{Tree}
use Rattle.data_theory.specs.Signature.{Sig}
use Rattle.lps_simulator.specs.declared.options.Options.{Options}
use Rattle.lps_simulator.specs.declared.session.Session.{Session}
use Rattle.lps_simulator.specs.OptionsInCode.{plain_options}
use Rattle.lps_simulator.specs.Sessions.{session_options}
use Rattle.lps_simulator.specs.SessionLoans.{HasListed}

-- the options that were lent are those of the session
pub lent : (g : Sig) (ts : List Tree) (old new : Session) (r : Result (Bor Options) NoMemory) (o : Bor Options) → HasListed g ts old r new → r ≡ Ok o → session_options new ≡ Some (plain_options o.now)
lent g ts old new r o has is = subst (λ (z : Result (Bor Options) NoMemory). MatchResult z (λ (o : Bor Options). session_options new ≡ Some (plain_options o.now)) (λ (e : NoMemory). session_options new ≡ None)) is has.options
