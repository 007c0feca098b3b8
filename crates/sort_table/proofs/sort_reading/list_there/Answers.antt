use Rattle.std.proofs.lemmas.Option.{slice_get_within}
use Rattle.sort_table.proofs.NamedSignatures.{list_meaning}
use Rattle.sort_table.proofs.SortsThere.{over_this}
use Rattle.sort_table.proofs.sort_reading.list_there.Goals as goal

pub unreachable-requires : goal.unreachable-requires
unreachable-requires c =
    let g = c.args.signature.now in
    let r = c.requires.there in
    c.in_default.ensures (r.0.0, over_this g c.names.ensures.stands.table c.args.element r.0 c.requires.within r.1 r.2)

pub returns-clause-sort : goal.returns-clause-sort
returns-clause-sort c = list_meaning c.args.signature.now c.args.element c.in-Some.sort c.names.ensures.stands.table c.in-Some.ensures

pub returns-clause-within : goal.returns-clause-within
returns-clause-within c = let over = c.in-Some.ensures in slice_get_within c.args.signature.now.sorts c.in-Some.sort.0 over.0 over.1
