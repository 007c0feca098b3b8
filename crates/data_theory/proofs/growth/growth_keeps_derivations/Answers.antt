use Rattle.data_theory.proofs.GrowthLemmas.{growth_keeps_derivations}
use Rattle.data_theory.proofs.growth.growth_keeps_derivations.Goals as goal

pub returns : goal.returns
returns c = growth_keeps_derivations
