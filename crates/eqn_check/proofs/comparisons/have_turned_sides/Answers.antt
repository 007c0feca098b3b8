use Rattle.eqn_check.proofs.Deciding.{both_no, both_so}
use Rattle.eqn_check.proofs.comparisons.have_turned_sides.Goals as goal

pub returns-then-not-first : goal.returns-then-not-first
returns-then-not-first c = both_no c.in_ok-first.first c.in_ok-first.ensures c.if-not-first.true

pub returns : goal.returns
returns c = both_so c.in_ok-first.first c.in_ok-second.second c.in_ok-first.ensures c.if-not-first.false c.in_ok-second.ensures
