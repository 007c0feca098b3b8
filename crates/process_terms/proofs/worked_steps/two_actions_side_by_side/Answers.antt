use Rattle.process_terms.proofs.SmallSteps.{side_by_side}
use Rattle.process_terms.proofs.worked_steps.two_actions_side_by_side.Goals as goal

pub returns : goal.returns
returns c = side_by_side
