use Rattle.bisim_laws.proofs.ComposedLinks.{beside_good}
use Rattle.bisim_laws.proofs.links.beside_is_good.Goals as goal

pub returns : goal.returns
returns c = beside_good
