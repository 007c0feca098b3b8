use Rattle.bisim_laws.proofs.ComposedLinks.{begun_good}
use Rattle.bisim_laws.proofs.links.begun_is_good.Goals as goal

pub returns : goal.returns
returns c = begun_good
