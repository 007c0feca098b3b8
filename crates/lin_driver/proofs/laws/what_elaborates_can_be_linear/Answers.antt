use Rattle.lin_driver.proofs.ElaboratedModels.{what_elaborates_can_be_linear}
use Rattle.lin_driver.proofs.laws.what_elaborates_can_be_linear.Goals as goal

pub returns : goal.returns
returns c = what_elaborates_can_be_linear
