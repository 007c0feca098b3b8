use Rattle.process_terms.proofs.SmallSteps.{left_merge_begins, left_merge_goes_on}
use Rattle.process_terms.proofs.worked_steps.left_merges_begin_on_the_left.Goals as goal

pub returns : goal.returns
returns c = record { ends = left_merge_begins; goes_on = left_merge_goes_on }
