use Rattle.summand_expander.proofs.MeantWithin.{products_good}
use Rattle.summand_expander.proofs.laws.products_within_are_good.Goals as goal

pub returns : goal.returns
returns c = products_good
