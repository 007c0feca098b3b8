use Rattle.term_pool.proofs.InhabitedSorts.{sorts_have_values_where_none_is_empty}
use Rattle.term_pool.proofs.growth.sorts_have_values_where_none_is_empty.Goals as goal

pub returns : goal.returns
returns c = sorts_have_values_where_none_is_empty
