use Rattle.lin_driver.proofs.AddedParts.{what_may_be_added_adds_only}
use Rattle.lin_driver.proofs.laws.what_may_be_added_adds_only.Goals as goal

pub returns : goal.returns
returns c = what_may_be_added_adds_only
