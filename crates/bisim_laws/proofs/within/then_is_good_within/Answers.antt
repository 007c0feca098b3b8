use Rattle.bisim_laws.proofs.ComposedWithin.{then_within}
use Rattle.bisim_laws.proofs.within.then_is_good_within.Goals as goal

pub returns : goal.returns
returns c = then_within
