use Rattle.std.proofs.Common.{refl}
use Rattle.sort_table.proofs.laws.trees_are_bare.Goals as goal

pub returns : goal.returns
returns c = record { sorts = refl; sums = refl; other_sums = refl; conjunctions = refl; groups_of_variables = refl; definitions = refl; structs = refl }
