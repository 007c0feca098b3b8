use Rattle.lin_driver.proofs.Additions.{additions_may_be_added}
use Rattle.lin_driver.proofs.laws.additions_may_be_added.Goals as goal

pub returns : goal.returns
returns c = additions_may_be_added
