use Rattle.data_typing.proofs.SortsFirst.{sorts_go_before_terms}
use Rattle.data_typing.proofs.laws.sorts_go_before_terms.Goals as goal

pub returns : goal.returns
returns c = sorts_go_before_terms
