use Rattle.bisim_laws.proofs.Firing.{fired}
use Rattle.bisim_laws.proofs.firings.steps_are_firings.Goals as goal

pub returns : goal.returns
returns c = fired
