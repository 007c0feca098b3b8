use Rattle.eqn_check.proofs.EarlierLemmas.{one_entered}
use Rattle.eqn_check.proofs.earlier.enter.Goals as goal

pub returns-in_ok-insert : goal.returns-in_ok-insert
returns-in_ok-insert c = one_entered c.args.last.now c.insert.new.self c.args.number c.args.key c.in-Some.key c.in-Some.is c.in_ok-insert.ensures.updates.0
