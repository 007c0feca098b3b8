use Rattle.bisim_laws.proofs.ComposedLinks.{then_good}
use Rattle.bisim_laws.proofs.links.then_is_good.Goals as goal

pub returns : goal.returns
returns c = then_good
