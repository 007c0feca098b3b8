use Rattle.summand_expander.proofs.GoodPruned.{end_alike}
use Rattle.summand_expander.proofs.laws.pruned_products_end_alike.Goals as goal

pub returns : goal.returns
returns c = end_alike
