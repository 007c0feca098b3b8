use Rattle.bisim_laws.proofs.SortedFiring.{firings_keep}
use Rattle.bisim_laws.proofs.firings.firings_keep_sorts.Goals as goal

pub returns : goal.returns
returns c = firings_keep
