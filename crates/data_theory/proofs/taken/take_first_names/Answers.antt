use Rattle.data_theory.proofs.NameLemmas.{first_takes}
use Rattle.data_theory.proofs.taken.take_first_names.Goals as goal

pub returns : goal.returns
returns c =
    first_takes c.args.names.now c.args.taken.now.keys _ c.take_texts.new.names c.take_texts.new.taken.keys c.args.rows.now c.take_rows.new.names c.take_rows.new.taken.keys c.list_rows.result c.take_rows-2.new.names c.take_rows-2.new.taken.keys
    c.reserved_words.ensures c.requires c.list_rows.ensures c.in_ok-take_texts.ensures c.in_ok-take_rows.ensures c.in_ok-take_rows-2.ensures
