use Rattle.data_theory.proofs.ConsistencyLemmas.{terms_have_values}
use Rattle.data_theory.proofs.values.closed_terms_have_values.Goals as goal

pub returns : goal.returns
returns c = terms_have_values
