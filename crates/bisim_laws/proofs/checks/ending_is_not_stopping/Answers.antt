use Rattle.bisim_laws.proofs.Unpaired.{not_stopping}
use Rattle.bisim_laws.proofs.checks.ending_is_not_stopping.Goals as goal

pub returns : goal.returns
returns c = not_stopping
