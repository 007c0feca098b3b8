use Rattle.lps_simulator.specs.OptionsInCode.{plain_options}
use Rattle.lps_simulator.specs.Sessions.{session_linear, session_state}
use Rattle.chosen_moves.proofs.ChosenMoves.{options_in}
use Rattle.lin_tasks.proofs.SessionFacts.{lent_shown}
use Rattle.lin_tasks.proofs.stepping.options_of_session.Goals as goal

pub options_text-requires : goal.options_text-requires
options_text-requires g c = lent_shown c.args.sig.now c.options.new.pool.trees c.args.session.now c.options.follows.lender-at-none c.options.result c.in_ok-found.found c.options.follows.holds-at-none c.in_ok-found.was

pub returns-clause-shown : goal.returns-clause-shown
returns-clause-shown g c = λ own fits fine.
    let found = plain_options c.in_ok-found.found.now in
    record {
      later = c.options.new.pool.trees;
      found = found;
      options = options_in c.args.sig.now own c.args.fuel c.args.bound c.args.pool.now.trees c.options.new.pool.trees (session_linear c.args.session.now) c.signature_stands.ensures fine c.requires.session.linear (session_state c.args.session.now) found
          c.requires.session.state (c.in_ok-found.ensures.options own fits fine);
      shows = c.in_ok-text.ensures;
      status_is = rw c.deref.ensures.value at c.status_with.ensures;
    }
