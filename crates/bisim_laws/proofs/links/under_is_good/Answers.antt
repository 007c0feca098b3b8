use Rattle.bisim_laws.proofs.ComposedLinks.{under_good}
use Rattle.bisim_laws.proofs.links.under_is_good.Goals as goal

pub returns : goal.returns
returns c = under_good
