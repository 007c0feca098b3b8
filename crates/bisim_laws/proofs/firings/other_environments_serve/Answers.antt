use Rattle.bisim_laws.proofs.Firing.{does_along}
use Rattle.bisim_laws.proofs.EqualFiring.{does_equal}
use Rattle.bisim_laws.proofs.firings.other_environments_serve.Goals as goal

pub returns : goal.returns
returns c = record { same = does_along; equal = does_equal }
