use Rattle.std.proofs.Common.{rules, arith}
use Rattle.data_typing.proofs.MakingLemmas.{zero_meant, positive_meant}
use Rattle.data_typing.proofs.making.numeral_head.Goals as goal

pub returns-then-value-eq0-clause-means : goal.returns-then-value-eq0-clause-means
returns-then-value-eq0-clause-means c = zero_meant c.args.sig.now c.next_sort.ensures.stands.table c.args.value (search rules)

pub returns-else-value-eq0-clause-means : goal.returns-else-value-eq0-clause-means
returns-else-value-eq0-clause-means c = positive_meant c.args.sig.now c.next_sort.ensures.stands.table c.args.value (omega arith)
