use Rattle.lps_simulator.specs.Sessions.{session_linear, session_state}
use Rattle.chosen_moves.proofs.ChosenMoves.{a_line_stops, a_move_stops, passed_on}
use Rattle.chosen_moves.proofs.following.follow.Goals as goal

pub returns-in_err-last-clause-fault : goal.returns-in_err-last-clause-fault
returns-in_err-last-clause-fault g c =
    passed_on _ c.from_residual-in_err-last.result c.in_err-last.field-0.0
    (λ own fits fine.
    a_move_stops c.args.sig.now own c.args.fuel c.args.bound (session_linear c.args.session.now) c.args.pool.now.trees (session_state c.args.session.now) c.args.text.now c.read_choices.new.choices.items c.in_ok-bad.bad c.in_ok-bad.ensures
    c.in_err-last.field-0.0 ((rw c.deref.ensures.value at c.in_err-last.ensures.fault) own fits fine))
    c.from_residual-in_err-last.ensures.1

pub returns-in-Some-clause-fault : goal.returns-in-Some-clause-fault
returns-in-Some-clause-fault g c = λ own fits fine.
    a_line_stops c.args.sig.now own c.args.fuel c.args.bound (session_linear c.args.session.now) c.args.pool.now.trees (session_state c.args.session.now) c.args.text.now c.read_choices.new.choices.items c.in_ok-bad.bad c.in_ok-bad.ensures
    c.take_all.new.pool.trees (session_state c.take_all.new.session) c.in-Some.line c.in-Some.is ((rw c.deref.ensures.value at c.in_ok-last.ensures.taken) own fits fine)
