use Rattle.data_theory.proofs.ConsistencyLemmas.{equal_constructors_are_the_same}
use Rattle.data_theory.proofs.constructors.equal_constructors_are_the_same.Goals as goal

pub returns : goal.returns
returns c = equal_constructors_are_the_same
