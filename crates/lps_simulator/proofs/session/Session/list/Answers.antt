use Rattle.std.proofs.Common.{refl}
use Rattle.lps_core.specs.PlainLinears.{plain_linear, plain_next}
use Rattle.lps_simulator.specs.OptionsInCode.{plain_options}
use Rattle.lps_simulator.proofs.SessionLemmas.{linear_stays, next_state_stays}
use Rattle.lps_simulator.proofs.session.Session.list.Goals as goal

pub options_in-requires-clause-known : goal.options_in-requires-clause-known
options_in-requires-clause-known g c = let r = c.requires.known in (r.0, r.1)

pub returns-in_err-found-clause-session : goal.returns-in_err-found-clause-session
returns-in_err-found-clause-session g c = record {
  linear = linear_stays c.args.sig.now c.signature_stands.ensures c.args.pool.now.trees c.options_in.new.pool.trees (plain_linear c.args.self.now.lin) c.options_in.ensures.kept c.requires.session.linear;
  state = next_state_stays c.args.sig.now c.args.pool.now.trees c.options_in.new.pool.trees c.args.self.now.lin.params.items (plain_next c.args.self.now.state) c.options_in.ensures.kept c.requires.session.state;
  moves = tt;
}

pub returns-clause-options : goal.returns-clause-options
returns-clause-options g c = (plain_options c.in_ok-found.found, refl, (λ own h f. c.in_ok-found.ensures.options own h f))

pub returns-clause-session : goal.returns-clause-session
returns-clause-session g c = record {
  linear = linear_stays c.args.sig.now c.signature_stands.ensures c.args.pool.now.trees c.options_in.new.pool.trees (plain_linear c.args.self.now.lin) c.options_in.ensures.kept c.requires.session.linear;
  state = next_state_stays c.args.sig.now c.args.pool.now.trees c.options_in.new.pool.trees c.args.self.now.lin.params.items (plain_next c.args.self.now.state) c.options_in.ensures.kept c.requires.session.state;
  moves = let r = c.requires.known in c.in_ok-found.ensures.moves r.0 r.1 r.2;
}
