use Rattle.sort_table.proofs.text_signatures.named_signature.Goals as goal

pub fill-requires-clause-begun : goal.fill-requires-clause-begun
fill-requires-clause-begun c = record { given = c.args.names; first = c.in_ok-signature.ensures; ids_are = c.requires.ids; entered = c.requires.entered }
