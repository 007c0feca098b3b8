use Rattle.lps_simulator.proofs.session.Session.stand.Goals as goal

pub returns-clause-fits : goal.returns-clause-fits
returns-clause-fits c = λ sig ts fits state. record { linear = fits.linear; state = state; moves = tt }
