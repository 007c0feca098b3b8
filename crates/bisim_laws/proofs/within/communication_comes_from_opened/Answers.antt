use Rattle.bisim_laws.proofs.Completing.{comes_from_opened}
use Rattle.bisim_laws.proofs.within.communication_comes_from_opened.Goals as goal

pub returns : goal.returns
returns c = comes_from_opened
