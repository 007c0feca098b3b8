use Rattle.bisim_laws.proofs.ComposedLinks.{up_to_enough}
use Rattle.bisim_laws.proofs.links.up_to_same_is_enough.Goals as goal

pub returns : goal.returns
returns c = up_to_enough
