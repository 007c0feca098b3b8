use Rattle.process_terms.proofs.SmallSteps.{delta_none}
use Rattle.process_terms.proofs.worked_steps.delta_does_nothing.Goals as goal

pub returns : goal.returns
returns c = delta_none
