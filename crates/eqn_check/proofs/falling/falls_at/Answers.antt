use Rattle.eqn_check.proofs.Deciding.{either_yes, either_so}
use Rattle.eqn_check.proofs.falling.falls_at.Goals as goal

pub returns-then-shrinks_at : goal.returns-then-shrinks_at
returns-then-shrinks_at c = either_yes c.shrinks_at.result c.shrinks_at.ensures c.if-shrinks_at.true

pub returns : goal.returns
returns c = either_so c.shrinks_at.result c.counts_down_at.result c.shrinks_at.ensures c.if-shrinks_at.false c.counts_down_at.ensures
