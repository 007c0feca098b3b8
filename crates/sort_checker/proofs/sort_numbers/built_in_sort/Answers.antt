use Rattle.sort_table.proofs.NamedSignatures.{built_in_sort}
use Rattle.sort_checker.proofs.sort_numbers.built_in_sort.Goals as goal

pub returns-clause-sort : goal.returns-clause-sort
returns-clause-sort c = built_in_sort c.args.sig.now c.next_sort.ensures.stands.table c.args.number c.requires
