use Rattle.std.proofs.Common.{[], ◌∷◌, arith}
use Rattle.sort_table.specs.BuiltInTests.{chosen_sort}
use Rattle.sort_table.proofs.BuiltInLemmas.{too_few, too_many}
use Rattle.sort_table.proofs.built_in_tests.fits_three.Goals as goal

pub returns-in_default : goal.returns-in_default
returns-in_default c =
    too_few (chosen_sort (c.args.first ∷ c.args.second ∷ c.args.third ∷ []) c.args.sorts.now) c.args.first c.args.second c.args.third c.args.sorts.now (omega (arith, c.in_default.len_below))

pub returns-in_default-2 : goal.returns-in_default-2
returns-in_default-2 c =
    too_many (chosen_sort (c.args.first ∷ c.args.second ∷ c.args.third ∷ []) c.args.sorts.now) c.args.first c.args.second c.args.third c.args.sorts.now (omega (arith, c.in_default.len_at_least))
