use Rattle.data_theory.proofs.EnvironmentLemmas.{bound_together, bound_are_the_parameters, parameters_read_back}
use Rattle.data_theory.proofs.environments.bound_parameters.Goals as goal

pub returns : goal.returns
returns c = record { together = bound_together; variables = bound_are_the_parameters; read_back = parameters_read_back }
