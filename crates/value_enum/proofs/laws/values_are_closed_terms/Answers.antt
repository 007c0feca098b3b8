use Rattle.value_enum.proofs.ClosedValues.{values_are_closed}
use Rattle.value_enum.proofs.laws.values_are_closed_terms.Goals as goal

pub returns : goal.returns
returns c = values_are_closed
