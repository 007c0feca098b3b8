use Rattle.term_pool.proofs.KeptSorts.{putting_in_keeps_sorts}
use Rattle.term_pool.proofs.laws.putting_in_keeps_sorts.Goals as goal

pub returns : goal.returns
returns c = putting_in_keeps_sorts
