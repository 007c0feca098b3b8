use Rattle.sort_table.proofs.NamedSignatures.{built_in_sort}
use Rattle.sort_table.proofs.sort_declaring.built_in.Goals as goal

pub returns-clause-sort : goal.returns-clause-sort
returns-clause-sort c = built_in_sort c.args.signature.now c.names.ensures.stands.table c.args.number c.requires
