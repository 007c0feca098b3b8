use Rattle.data_theory.proofs.ConsistencyLemmas.{projections_compute}
use Rattle.data_theory.proofs.constructors.projections_compute.Goals as goal

pub returns : goal.returns
returns c = projections_compute
