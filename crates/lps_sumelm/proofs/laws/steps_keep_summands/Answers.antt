use Rattle.lps_sumelm.proofs.SolvingSteps.{steps_keep_the_shape, steps_keep_the_sorts, steps_answer}
use Rattle.lps_sumelm.proofs.laws.steps_keep_summands.Goals as goal

pub returns : goal.returns
returns c = record { shape = steps_keep_the_shape; sorts = steps_keep_the_sorts; answers = steps_answer }
