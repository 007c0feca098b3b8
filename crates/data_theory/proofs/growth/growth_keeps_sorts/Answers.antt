use Rattle.data_theory.proofs.GrowthLemmas.{growth_keeps_sorts}
use Rattle.data_theory.proofs.growth.growth_keeps_sorts.Goals as goal

pub returns : goal.returns
returns c = growth_keeps_sorts
