use Rattle.data_typing.proofs.ReadableWords.{data_are_readable}
use Rattle.data_typing.proofs.laws.spelled_data_are_readable.Goals as goal

pub returns : goal.returns
returns c = data_are_readable
