use Rattle.data_theory.proofs.ChainLengths.{no_chain_is_longer}
use Rattle.data_theory.proofs.fuel.no_chain_is_longer.Goals as goal

pub returns : goal.returns
returns c = no_chain_is_longer
