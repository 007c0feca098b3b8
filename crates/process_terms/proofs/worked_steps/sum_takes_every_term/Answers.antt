use Rattle.process_terms.proofs.SmallSteps.{every_term}
use Rattle.process_terms.proofs.worked_steps.sum_takes_every_term.Goals as goal

pub returns : goal.returns
returns c = every_term
