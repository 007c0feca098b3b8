use Rattle.eqn_check.proofs.CountedLemmas.{some_added}
use Rattle.eqn_check.proofs.counting.add_kept.Goals as goal

pub returns-in_ok-insert : goal.returns-in_ok-insert
returns-in_ok-insert c =
    some_added c.args.sig.now c.args.pool.now.trees c.args.part c.kept_above.result c.args.found.now c.insert.new.self c.kept_above.ensures c.in-Some.var c.in-Some.is c.in_ok-insert.ensures
