use Rattle.lin_driver.proofs.NetworkLaws.{kept_of_whole}
use Rattle.lin_driver.proofs.laws.products_within_lose_nothing.Goals as goal

pub returns : goal.returns
returns c = kept_of_whole
