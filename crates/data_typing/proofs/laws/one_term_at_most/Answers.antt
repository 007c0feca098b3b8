use Rattle.data_typing.proofs.OneTerm.{one_term_at_most}
use Rattle.data_typing.proofs.laws.one_term_at_most.Goals as goal

pub returns : goal.returns
returns c = one_term_at_most
