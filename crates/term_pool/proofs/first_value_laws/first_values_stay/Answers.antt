use Rattle.term_pool.proofs.FirstValueGrowth.{first_value_stays}
use Rattle.term_pool.proofs.first_value_laws.first_values_stay.Goals as goal

pub returns : goal.returns
returns c = first_value_stays
