use Rattle.data_theory.proofs.ConsistencyLemmas.{symbols_keep_sorts}
use Rattle.data_theory.proofs.values.symbols_keep_sorts.Goals as goal

pub returns : goal.returns
returns c = symbols_keep_sorts
