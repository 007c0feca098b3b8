use Rattle.std.proofs.Common.{List}
use Rattle.data_theory.specs.Provable.{Equation}
use Rattle.lps_core.specs.PlainLinears.{plain_linear}
use Rattle.lin_driver.specs.Eliminations.{equations_in}
use Rattle.lps_simulator.specs.Sessions.{session_linear, session_state}
use Rattle.lps_simulator.specs.Walks.{word_of}
use Rattle.lin_tasks.proofs.WalkSteps.{walk_shown}
use Rattle.lin_tasks.proofs.walking.shown_walk.Goals as goal

pub take_moves-requires-clause-known : goal.take_moves-requires-clause-known
take_moves-requires-clause-known c =
    let own : List Equation = equations_in c.args.sig.now c.args.pool.now.trees c.args.theory.now in
    (own, c.in_ok-rewriter.ensures.fits own c.requires.equations.equations, c.requires.equations.well_formed)

pub take_moves-requires-clause-session : goal.take_moves-requires-clause-session
take_moves-requires-clause-session c = c.in_ok-session.ensures.fits c.args.sig.now c.args.pool.now.trees c.requires.fits

pub returns : goal.returns
returns c =
    let own : List Equation = equations_in c.args.sig.now c.args.pool.now.trees c.args.theory.now in
    walk_shown c.args.sig.now own c.args.plan c.args.pool.now.trees c.take_moves.new.pool.trees (plain_linear c.args.lin) (session_linear c.in_ok-session.session) (word_of c.new-walk.result) (session_state c.in_ok-session.session) c.new-text.result.items c.take_moves.new.text.items c.push_taken.new.text.items
    c.in_ok-taken.taken c.in_ok-taken.status (c.in_ok-taken.ensures.walked own (c.in_ok-rewriter.ensures.fits own c.requires.equations.equations) c.requires.equations.well_formed) c.new-walk.ensures.word c.in_ok-session.ensures.linear c.in_ok-session.ensures.state c.new-text.ensures.items
    c.in_ok-push_taken.ensures
