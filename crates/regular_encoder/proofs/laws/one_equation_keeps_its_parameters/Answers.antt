use Rattle.regular_encoder.proofs.OneEquation as proofs
use Rattle.regular_encoder.proofs.laws.one_equation_keeps_its_parameters.Goals as goal

pub returns : goal.returns
returns c = proofs.one_equation_keeps_its_parameters
