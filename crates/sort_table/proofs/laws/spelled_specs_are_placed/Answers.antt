use Rattle.sort_table.proofs.SpelledPlaces.{spelled_specs_are_placed}
use Rattle.sort_table.proofs.laws.spelled_specs_are_placed.Goals as goal

pub returns : goal.returns
returns c = spelled_specs_are_placed
