-- What a session lends can be shown.
use Rattle.std.proofs.Common.{◌≡◌, List, subst, Option, Result, Ok}
use Rattle.std.specs.Prelude.{IfSome}
use Rattle.std.specs.Borrow.{Bor}
use Rattle.std.specs.List.{All}
use Rattle.std.proofs.lemmas.List.Elements.{All-weaker}
use Rattle.data_theory.specs.declared.no_memory.NoMemory.{NoMemory}
use Rattle.data_theory.specs.IdTrees.{Tree}
use Rattle.data_theory.specs.Signature.{Sig}
use Rattle.lps_simulator.specs.declared.options.Options.{Options}
use Rattle.lps_simulator.specs.declared.session.Session.{Session}
use Rattle.lps_simulator.specs.OptionsInCode.{PlainOptions, plain_options, IsMove}
use Rattle.lps_simulator.specs.Sessions.{session_linear}
use Rattle.lps_simulator.specs.SessionLoans.{HasListed}
use Rattle.chosen_moves.proofs.LentOptions.{lent}
use Rattle.lin_tasks.specs.Shown.{CanBeShown}

-- the labels of what was lent can be shown
pub lent_shown : (g : Sig) (ts : List Tree) (old new : Session) (r : Result (Bor Options) NoMemory) (o : Bor Options) → HasListed g ts old r new → r ≡ Ok o → All (CanBeShown g ts) (plain_options o.now).moves
lent_shown g ts old new r o has is =
    All-weaker (IsMove g ts (session_linear new).params) (CanBeShown g ts) (λ m h. h.label) (plain_options o.now).moves
    (subst (λ (z : Option PlainOptions). IfSome z (λ (f : PlainOptions). All (IsMove g ts (session_linear new).params) f.moves)) (lent g ts old new r o has is) has.fits.moves)
