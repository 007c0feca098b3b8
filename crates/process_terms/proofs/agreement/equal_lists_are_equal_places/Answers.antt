use Rattle.process_terms.proofs.AgreeingLabels.{equal_lists}
use Rattle.process_terms.proofs.agreement.equal_lists_are_equal_places.Goals as goal

pub returns : goal.returns
returns c = equal_lists
