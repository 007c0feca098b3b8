use Rattle.term_pool.proofs.Candidates.{first_number_is}
use Rattle.term_pool.proofs.first_value_laws.first_numbers_are_first.Goals as goal

pub returns : goal.returns
returns c = first_number_is
