use Rattle.bisim_laws.proofs.RunsWithTerminate.{runs_come_from, runs_answered}
use Rattle.bisim_laws.proofs.links.runs_with_terminate.Goals as goal

pub returns : goal.returns
returns c = record { come = runs_come_from; answered = runs_answered }
