use Rattle.data_theory.proofs.ConsistencyLemmas.{recognisers_accept, recognisers_reject}
use Rattle.data_theory.proofs.constructors.recognisers_compute.Goals as goal

pub returns : goal.returns
returns c = record { of_its_own = recognisers_accept; of_another = recognisers_reject }
