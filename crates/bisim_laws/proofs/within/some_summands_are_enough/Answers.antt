use Rattle.bisim_laws.proofs.SomeSummands.{some_good, some_linear}
use Rattle.bisim_laws.proofs.within.some_summands_are_enough.Goals as goal

pub returns-clause-linear : goal.returns-clause-linear
returns-clause-linear c = some_linear

pub returns-clause-good : goal.returns-clause-good
returns-clause-good c = some_good
