use Rattle.term_pool.proofs.InhabitedSorts.{values_are_constructed_terms}
use Rattle.term_pool.proofs.growth.values_are_constructed_terms.Goals as goal

pub returns : goal.returns
returns c = values_are_constructed_terms
