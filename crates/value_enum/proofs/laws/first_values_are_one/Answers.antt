use Rattle.value_enum.proofs.OneList.{first_values_once}
use Rattle.value_enum.proofs.laws.first_values_are_one.Goals as goal

pub returns : goal.returns
returns c = first_values_once
