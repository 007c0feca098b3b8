use Rattle.summand_expander.proofs.GoodPruned.{good_pruned}
use Rattle.summand_expander.proofs.laws.pruned_products_are_good_within.Goals as goal

pub returns : goal.returns
returns c = good_pruned
