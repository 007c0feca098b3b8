use Rattle.bisim_laws.proofs.AlikeFiring.{solved_good}
use Rattle.bisim_laws.proofs.checks.solved_with_itself_is_good.Goals as goal

pub returns : goal.returns
returns c = solved_good
