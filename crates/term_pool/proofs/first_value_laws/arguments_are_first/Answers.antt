use Rattle.term_pool.proofs.FirstValueLemmas.{arguments_first}
use Rattle.term_pool.proofs.first_value_laws.arguments_are_first.Goals as goal

pub returns : goal.returns
returns c = arguments_first
