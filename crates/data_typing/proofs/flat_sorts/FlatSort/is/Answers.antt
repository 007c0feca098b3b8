use Rattle.std.proofs.Common.{rules}
use Rattle.data_typing.proofs.FlatSortLemmas.{same_sort, other_sort}
use Rattle.data_typing.proofs.flat_sorts.FlatSort.is.Goals as goal

pub returns-then-eq : goal.returns-then-eq
returns-then-eq c = same_sort c.args.self c.args.other (search rules)

pub returns-else-eq : goal.returns-else-eq
returns-else-eq c = other_sort c.args.self c.args.other (search rules)
