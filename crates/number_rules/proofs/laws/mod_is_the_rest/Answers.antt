use Rattle.number_rules.proofs.NumberLemmas.{mod_is_the_rest_lem}
use Rattle.number_rules.proofs.laws.mod_is_the_rest.Goals as goal

pub returns : goal.returns
returns c = mod_is_the_rest_lem
