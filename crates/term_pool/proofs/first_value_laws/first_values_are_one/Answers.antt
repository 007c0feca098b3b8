use Rattle.term_pool.proofs.FirstValueLemmas.{first_value_once}
use Rattle.term_pool.proofs.first_value_laws.first_values_are_one.Goals as goal

pub returns : goal.returns
returns c = first_value_once
