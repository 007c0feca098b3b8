use Rattle.std.proofs.Common.{◌≡◌, rules, sym, subst}
use Rattle.lps_simulator.specs.OptionsInCode.{IsState}
use Rattle.lps_simulator.proofs.session.Session.new.Goals as goal

pub returns-clause-fits : goal.returns-clause-fits
returns-clause-fits c =
    let same : c.in_ok-state.state.items ≡ c.args.lin.init.items = search rules in
    λ sig ts fits. record { linear = fits; state = subst (IsState sig ts c.args.lin.params.items) (sym same) (record { terms = fits.init; closed = fits.closed }); moves = tt }
