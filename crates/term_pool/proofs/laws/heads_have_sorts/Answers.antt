use Rattle.term_pool.proofs.KeptSorts.{heads_have_sorts}
use Rattle.term_pool.proofs.laws.heads_have_sorts.Goals as goal

pub returns : goal.returns
returns c = heads_have_sorts
