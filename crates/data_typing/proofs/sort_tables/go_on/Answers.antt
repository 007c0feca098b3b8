use Rattle.data_typing.proofs.TableLemmas.{tables_in_front}
use Rattle.data_typing.proofs.sort_tables.go_on.Goals as goal

pub add_sorts-requires : goal.add_sorts-requires
add_sorts-requires c = tables_in_front c.requires.0 c.args.sig.now c.args.tables.now.flats.items c.args.tables.now.named.items c.requires.1.flats c.requires.1.named c.requires.1.all_named c.requires.2
