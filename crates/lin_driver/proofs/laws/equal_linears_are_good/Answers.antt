use Rattle.lin_driver.proofs.EqualLinears.{equal_linears_are_good}
use Rattle.lin_driver.proofs.laws.equal_linears_are_good.Goals as goal

pub returns : goal.returns
returns c = equal_linears_are_good
