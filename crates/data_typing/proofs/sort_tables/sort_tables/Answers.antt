use Rattle.data_typing.proofs.TableLemmas.{front_of_none}
use Rattle.data_typing.proofs.sort_tables.sort_tables.Goals as goal

pub add_sorts-requires : goal.add_sorts-requires
add_sorts-requires c = front_of_none c.args.sig.now c.new-flats.result.items c.new-named.result.items c.new-flats.ensures.items c.new-named.ensures.items
