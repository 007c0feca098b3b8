use Rattle.bisim_laws.proofs.ComposedLinks.{same_good}
use Rattle.bisim_laws.proofs.links.same_is_good.Goals as goal

pub returns : goal.returns
returns c = same_good
