use Rattle.data_typing.proofs.OtherNames.{other_names_change_nothing}
use Rattle.data_typing.proofs.laws.other_names_change_nothing.Goals as goal

pub returns : goal.returns
returns c = other_names_change_nothing
