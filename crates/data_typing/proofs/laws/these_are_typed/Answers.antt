use Rattle.data_typing.proofs.TypingsWorked.{these_are_typed}
use Rattle.data_typing.proofs.laws.these_are_typed.Goals as goal

pub returns : goal.returns
returns c = these_are_typed
