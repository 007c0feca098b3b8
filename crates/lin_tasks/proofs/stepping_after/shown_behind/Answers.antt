use Rattle.lps_core.specs.PlainLinears.{plain_next}
use Rattle.lps_simulator.specs.Sessions.{session_linear, session_state}
use Rattle.chosen_moves.proofs.ChosenMoves.{passed_on}
use Rattle.lin_tasks.proofs.StepsAfter.{shown_there, state_behind}
use Rattle.lin_tasks.proofs.stepping_after.shown_behind.Goals as goal

pub options_of_session-requires-clause-known : goal.options_of_session-requires-clause-known
options_of_session-requires-clause-known g c = let r = c.requires.known in (r.0, c.in_ok-last.ensures.fits r.0 r.1, r.2)

pub options_of_session-requires-clause-rules : goal.options_of_session-requires-clause-rules
options_of_session-requires-clause-rules g c = rw c.in_ok-last.ensures.rules c.requires.rules

pub returns-in_err-last-clause-fault : goal.returns-in_err-last-clause-fault
returns-in_err-last-clause-fault g c = passed_on _ c.from_residual.result c.in_err-last.field-0.0 c.in_err-last.ensures.fault c.from_residual.ensures.1

pub returns-clause-state : goal.returns-clause-state
returns-clause-state g c =
    state_behind c.args.sig.now c.follow.new.pool.trees c.options_of_session.new.pool.trees (session_linear c.args.session.now) (session_linear c.follow.new.session) (session_state c.follow.new.session) (plain_next c.in_ok-last.last)
    c.in_ok-answer.ensures.kept c.in_ok-last.ensures.state c.in_ok-last.ensures.linear c.in_ok-last.ensures.session.state

pub returns-clause-shown : goal.returns-clause-shown
returns-clause-shown g c = λ own fits fine.
    shown_there c.args.sig.now c.follow.new.pool.trees c.options_of_session.new.pool.trees (session_linear c.args.session.now) (session_linear c.follow.new.session) (session_state c.follow.new.session) (plain_next c.in_ok-last.last)
    c.in_ok-answer.ensures.kept c.in_ok-last.ensures.state c.in_ok-last.ensures.linear c.in_ok-last.ensures.session.state own c.args.fuel c.args.bound c.args.pool.now.trees (session_state c.args.session.now) c.args.choices.now
    c.in_ok-answer.answer.status c.in_ok-answer.answer.text.items c.signature_stands.ensures (c.in_ok-last.ensures.followed own fits fine) (c.in_ok-answer.ensures.shown own (c.in_ok-last.ensures.fits own fits) fine)
