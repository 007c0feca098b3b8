use Rattle.data_theory.proofs.ConsistencyLemmas.{equations_of_values_are_consistent}
use Rattle.data_theory.proofs.values.equations_of_values_are_consistent.Goals as goal

pub returns : goal.returns
returns c = equations_of_values_are_consistent
