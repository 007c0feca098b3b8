use Rattle.bisim_laws.proofs.ComposedWithin.{beside_within}
use Rattle.bisim_laws.proofs.within.beside_is_good_within.Goals as goal

pub returns : goal.returns
returns c = beside_within
