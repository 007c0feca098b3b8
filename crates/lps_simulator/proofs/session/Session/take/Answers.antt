use Rattle.std.proofs.Common.{◌≡◌, ◌<◌, ◌∙◌, length, sym, ap, subst, Some}
use Rattle.std.specs.Prelude.{option_map, slice_get}
use Rattle.lps_simulator.specs.OptionsInCode.{plain_options}
use Rattle.lps_simulator.proofs.SessionLemmas.{kept_found, none_found, next_stands, moves_of_kept, no_moves_kept}
use Rattle.lps_simulator.proofs.session.Session.take.Goals as goal

pub state_after-requires : goal.state_after-requires
state_after-requires c = subst (λ z. c.args.k < length z.moves) (sym (kept_found c.args.self.now.options c.in-Some.options c.requires.0 (sym c.take.ensures.value ∙ c.in-Some.is) c.requires.1)) c.requires.2

pub returns-in-Some-clause-state : goal.returns-in-Some-clause-state
returns-in-Some-clause-state c = λ found m is there_is. c.state_after.ensures m (subst (λ z. slice_get z.moves c.args.k ≡ Some m) (sym (kept_found c.args.self.now.options c.in-Some.options found (sym c.take.ensures.value ∙ c.in-Some.is) is)) there_is)

pub returns-in-Some-clause-options : goal.returns-in-Some-clause-options
returns-in-Some-clause-options c = ap (option_map plain_options) c.take.ensures.after

pub returns-in-Some-clause-fits : goal.returns-in-Some-clause-fits
returns-in-Some-clause-fits c = λ sig ts fits. record {
  linear = fits.linear;
  state = next_stands sig ts c.args.self.now.lin.params.items (plain_options c.in-Some.options).moves c.args.k c.state_after.result (subst (λ z. c.args.k < length z.moves) (sym (kept_found c.args.self.now.options c.in-Some.options c.requires.0 (sym c.take.ensures.value ∙ c.in-Some.is) c.requires.1)) c.requires.2)
      (moves_of_kept sig ts c.args.self.now.lin.params.items c.args.self.now.options c.in-Some.options (sym c.take.ensures.value ∙ c.in-Some.is) fits.moves) c.state_after.ensures;
  moves = no_moves_kept sig ts c.args.self.now.lin.params.items c.take.new.self c.take.ensures.after;
}

pub returns-in-None-clause-state : goal.returns-in-None-clause-state
returns-in-None-clause-state c = λ found m is there_is. absurd (none_found c.args.self.now.options found (sym c.take.ensures.value ∙ c.in-None.is) is)

pub returns-in-None-clause-options : goal.returns-in-None-clause-options
returns-in-None-clause-options c = ap (option_map plain_options) c.take.ensures.after

pub returns-in-None-clause-fits : goal.returns-in-None-clause-fits
returns-in-None-clause-fits c = λ sig ts fits. absurd (none_found c.args.self.now.options c.requires.0 (sym c.take.ensures.value ∙ c.in-None.is) c.requires.1)
