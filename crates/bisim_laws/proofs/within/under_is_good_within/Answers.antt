use Rattle.bisim_laws.proofs.ComposedWithin.{under_within}
use Rattle.bisim_laws.proofs.within.under_is_good_within.Goals as goal

pub returns : goal.returns
returns c = under_within
