use Rattle.process_terms.proofs.SmallSteps.{sync_goes_on, sync_goes_on_with_the_right, sync_goes_on_with_the_left, sync_of_labels_is_their_label}
use Rattle.process_terms.proofs.worked_steps.synchronisations_begin_on_both_sides.Goals as goal

pub returns : goal.returns
returns c = record { goes_on = sync_goes_on; left_ends = sync_goes_on_with_the_right; right_ends = sync_goes_on_with_the_left; ends = sync_of_labels_is_their_label }
