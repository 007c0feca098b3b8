use Rattle.data_typing.specs.declared.flat_sorts.Base.TheVariants as bases
use Rattle.data_typing.specs.FlatSorts.{flat_sort}
use Rattle.data_typing.specs.StandingSorts.{IsSortIn}
use Rattle.data_typing.proofs.StandingLemmas.{mapped_get}
use Rattle.data_typing.proofs.standing.sorts_in.Goals as goal

pub returns-in_default-clause-absent : goal.returns-in_default-clause-absent
returns-in_default-clause-absent c = λ none all. c.sort_in.ensures.absent c.in_default.is (mapped_get (IsSortIn c.args.sig.now) flat_sort c.args.flats.now c.loop-flat.flat-index (record { depth = 0; base = bases.Bool }) c.loop-flat-test.true all)
