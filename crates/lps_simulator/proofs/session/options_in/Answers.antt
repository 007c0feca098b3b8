use Rattle.lps_core.specs.PlainLinears.{plain_linear}
use Rattle.lps_simulator.specs.OptionsInCode.{plain_options}
use Rattle.lps_simulator.proofs.TriedSteps.{state_some, some_options, no_options_at, no_moves}
use Rattle.lps_simulator.proofs.session.options_in.Goals as goal

pub options_at-requires-clause-state : goal.options_at-requires-clause-state
options_at-requires-clause-state g c = state_some c.args.sig.now c.args.pool.now.trees c.args.lin.now.params.items c.args.state.now c.in-Some.terms c.as_slice-terms.result.now c.in-Some.is c.as_slice-terms.ensures.value c.requires.state

pub returns-in_ok-found-in-Some-clause-options : goal.returns-in_ok-found-in-Some-clause-options
returns-in_ok-found-in-Some-clause-options g c = λ own h fine.
    some_options c.args.sig.now own c.args.fuel c.args.bound c.args.pool.now.trees c.options_at.new.pool.trees (plain_linear c.args.lin.now) c.args.state.now c.in-Some.terms c.as_slice-terms.result.now (plain_options c.in_ok-found-in-Some.found) c.in-Some.is c.as_slice-terms.ensures.value (c.in_ok-found-in-Some.ensures.options own h fine)

pub returns-in-None-clause-options : goal.returns-in-None-clause-options
returns-in-None-clause-options g c = λ own h fine. no_options_at c.args.sig.now own c.args.fuel c.args.bound c.args.pool.now.trees c.args.pool.now.trees (plain_linear c.args.lin.now) c.args.state.now (plain_options c.nothing.result) c.in-None.is c.nothing.ensures

pub returns-in-None-clause-moves : goal.returns-in-None-clause-moves
returns-in-None-clause-moves g c = λ own h fine. no_moves c.args.sig.now c.args.pool.now.trees c.args.lin.now.params.items (plain_options c.nothing.result) c.nothing.ensures
