use Rattle.summand_expander.proofs.FirstSteps.{from_linear}
use Rattle.summand_expander.proofs.laws.product_from_is_linear.Goals as goal

pub returns : goal.returns
returns c = from_linear
