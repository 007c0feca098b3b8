use Rattle.data_theory.proofs.IdSortLemmas.{sorts_mean_their_kinds}
use Rattle.data_theory.proofs.meanings.sorts_mean_their_kinds.Goals as goal

pub returns : goal.returns
returns c = sorts_mean_their_kinds
