use Rattle.process_terms.proofs.SmallSteps.{ending_on}
use Rattle.process_terms.proofs.worked_steps.ending_goes_on.Goals as goal

pub returns : goal.returns
returns c = ending_on
