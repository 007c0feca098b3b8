use Rattle.data_theory.proofs.ConsistencyLemmas.{quotient_and_remainder}
use Rattle.data_theory.proofs.values.quotient_is_the_greatest.Goals as goal

pub returns : goal.returns
returns c = quotient_and_remainder
