use Rattle.data_typing.proofs.Readings.{typing_reads_the_expression}
use Rattle.data_typing.proofs.laws.typing_reads_the_expression.Goals as goal

pub returns : goal.returns
returns c = typing_reads_the_expression
