use Rattle.std.proofs.Common.{inl}
use Rattle.std.proofs.lemmas.Option.{slice_get_within}
use Rattle.sort_table.specs.NamedSorts.{no_lists}
use Rattle.sort_table.proofs.NamedSignatures.{list_meaning}
use Rattle.sort_table.proofs.sort_declaring.list_over.Goals as goal

pub returns-in-Some-clause-sort : goal.returns-in-Some-clause-sort
returns-in-Some-clause-sort c = list_meaning c.args.signature.now c.args.element c.in-Some.sort c.names.ensures.stands.table c.in-Some.ensures

pub returns-in-Some-clause-within : goal.returns-in-Some-clause-within
returns-in-Some-clause-within c = let over = c.in-Some.ensures in slice_get_within c.args.signature.now.sorts c.in-Some.sort.0 over.0 over.1

pub returns-in-Some-clause-added : goal.returns-in-Some-clause-added
returns-in-Some-clause-added c = no_lists

pub returns-in-Some-clause-lists : goal.returns-in-Some-clause-lists
returns-in-Some-clause-lists c = λ x l over. inl over
