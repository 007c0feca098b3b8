use Rattle.process_terms.proofs.SmallSteps.{silent_through}
use Rattle.process_terms.proofs.worked_steps.silence_is_allowed.Goals as goal

pub returns : goal.returns
returns c = silent_through
