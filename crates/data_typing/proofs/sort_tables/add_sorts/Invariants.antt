use Rattle.data_typing.specs.NamedSorts.{AreFrontOf}
use Rattle.data_typing.proofs.sort_tables.add_sorts.Given as goal

abbrev pub invariant-loop-i : goal.invariant-loop-i
invariant-loop-i l = AreFrontOf l.sig l.i l.flats.items l.named.items
