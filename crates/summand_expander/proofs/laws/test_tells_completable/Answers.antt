use Rattle.summand_expander.proofs.ToldCompletable.{test_tells}
use Rattle.summand_expander.proofs.laws.test_tells_completable.Goals as goal

pub returns : goal.returns
returns c = test_tells
