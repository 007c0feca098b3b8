use Rattle.bisim_laws.proofs.AlikeFiring.{fire_alike}
use Rattle.bisim_laws.proofs.firings.equal_arguments_fire_alike.Goals as goal

pub returns : goal.returns
returns c = fire_alike
