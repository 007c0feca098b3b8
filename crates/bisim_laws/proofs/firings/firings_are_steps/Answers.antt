use Rattle.bisim_laws.proofs.Firing.{fire}
use Rattle.bisim_laws.proofs.firings.firings_are_steps.Goals as goal

pub returns : goal.returns
returns c = fire
