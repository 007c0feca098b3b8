use Rattle.summand_expander.proofs.CutProducts.{merges_cut}
use Rattle.summand_expander.proofs.laws.pruned_merges_are_cut.Goals as goal

pub returns : goal.returns
returns c = merges_cut
