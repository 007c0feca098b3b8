use Rattle.data_theory.proofs.ConsistencyLemmas.{constructors_are_injective}
use Rattle.data_theory.proofs.constructors.constructors_are_injective.Goals as goal

pub returns : goal.returns
returns c = constructors_are_injective
