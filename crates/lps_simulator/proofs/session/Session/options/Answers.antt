use Rattle.std.proofs.Common.{List, refl}
use Rattle.data_theory.specs.Provable.{Equation}
use Rattle.data_rewriter.specs.Rewriters.{Fits as FitsPool}
use Rattle.data_rewriter.specs.Simplifying.{AreWellFormed}
use Rattle.lps_simulator.specs.OptionsInCode.{AreOptionsAt}
use Rattle.lps_simulator.specs.Sessions.{session_linear, session_options, session_state}
use Rattle.lps_simulator.proofs.SessionLemmas.{lent_options}
use Rattle.lps_simulator.proofs.session.Session.options.Goals as goal

pub returns : goal.returns
returns g c = (
  (refl, (λ s. tt), record { linear = c.list.ensures.linear; state = c.list.ensures.state; options = c.kept.ensures; fits = c.list.ensures.session }),
  record {
    session = tt;
    kept = c.list.ensures.kept;
    rules = c.list.ensures.rules;
    fits = c.list.ensures.fits;
    options = let found = c.in_ok-list.ensures.options in
        lent_options (λ o. (own : List Equation) → FitsPool c.args.rewriter.now c.args.sig.now own c.args.pool.now.trees → AreWellFormed c.args.sig.now own
        → AreOptionsAt c.args.sig.now own c.args.fuel c.args.bound c.args.pool.now.trees c.list.new.pool.trees (session_linear c.args.self.now) (session_state c.args.self.now) o) (session_options c.list.new.self) found.0 c.kept.result c.kept.ensures found.1 found.2;
  },
)
