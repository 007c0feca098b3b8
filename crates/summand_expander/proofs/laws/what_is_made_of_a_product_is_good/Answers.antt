use Rattle.summand_expander.proofs.MadeFirstSteps.{made_of_product}
use Rattle.summand_expander.proofs.laws.what_is_made_of_a_product_is_good.Goals as goal

pub returns : goal.returns
returns c = made_of_product
