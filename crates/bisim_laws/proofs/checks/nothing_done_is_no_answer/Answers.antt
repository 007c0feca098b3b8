use Rattle.bisim_laws.proofs.Unpaired.{nothing_done}
use Rattle.bisim_laws.proofs.checks.nothing_done_is_no_answer.Goals as goal

pub returns : goal.returns
returns c = nothing_done
