use Rattle.data_theory.proofs.ConsistencyLemmas.{equal_terms_have_one_value}
use Rattle.data_theory.proofs.values.provably_equal_terms_have_one_value.Goals as goal

pub returns : goal.returns
returns c = equal_terms_have_one_value
