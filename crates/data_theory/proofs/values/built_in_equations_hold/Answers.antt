use Rattle.data_theory.proofs.ConsistencyLemmas.{built_in_equations_hold}
use Rattle.data_theory.proofs.values.built_in_equations_hold.Goals as goal

pub returns : goal.returns
returns c = built_in_equations_hold
